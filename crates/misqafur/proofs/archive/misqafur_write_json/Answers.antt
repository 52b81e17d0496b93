-- `archive::misqafur_write_json` meets its contract.
use mathlib.Core.Path.{◌≡◌, sym, ap, ◌∙◌, subst}
use Prim.Native.Nat.{◌≤◌}
use native.Mathlib.Omega.{arith}
use lib.ListN.{length}
use Rattle.residue.proofs.Words.{bytes_length}
use Rattle.specification.specs.declared.settings.Settings.{Settings}
use Rattle.specification.specs.Tables.{five_tables}
use Rattle.json_sheets.specs.Calls.{WrittenText, written_of}
use Rattle.json_sheets.proofs.Numbers.{write_count}
use Rattle.misqafur.proofs.Packed.{packs_text}
use Rattle.misqafur.proofs.archive.misqafur_write_json.Goals as goal
use Rattle.misqafur.proofs.archive.misqafur_write_json.Goals.{After-settings_given-settings, After-write_json, Start}

-- the length of a text fits the number
module _ (a : After-write_json) where
  abbrev g : After-settings_given-settings
  g = (goal.at.After-write_json a).After-settings_given-settings

  abbrev s : Start
  s = (goal.at.After-settings_given-settings g).Start

  eight : length g.settings_given-settings.result.weights ≡ 8
  eight = ap (λ (x : Settings). length x.weights) g.settings_given-settings.ensures ∙ bytes_length 8 s.args.weights

  counted : (written_of a.write_json.result).count ≤ 103534
  counted = subst (λ (o : WrittenText). o.answer.count ≤ 103534) (sym a.write_json.ensures)
      (write_count g.settings_given-settings.result s.args.n s.args.r
      (five_tables s.args.states.now s.args.standard.now s.args.leads.now s.args.coefficients.now s.args.counts.now) s.args.out.now eight)

pub pack_written-requires : goal.pack_written-requires
pack_written-requires c = omega (arith, counted (goal.at.pack_written-requires c).After-write_json)

pub returns : goal.returns
returns c = let a = c in
    rw (← a.settings_given-settings.ensures) (packs_text a.write_json.ensures c.pack_written.ensures)
