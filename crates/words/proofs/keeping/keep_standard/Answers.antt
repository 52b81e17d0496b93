-- `keeping::keep_standard` meets its contract.
use mathlib.Core.Path.{refl, ap, ◌∙◌}
use mathlib.Core.List.{List}
use native.Mathlib.Numerals.{add-one}
use Prim.Native.Nat.{ℕ}
use Rattle.residue.specs.Layout.{with_place}
use Rattle.words.specs.ByteColumns.{noted}
use Rattle.words.proofs.keeping.keep_standard.Goals as goal

pub returns : goal.returns
returns c = let a = c in
    let e = c in record {
      standard_after = e.keep_eight.ensures ∙ ap (λ (l : List ℕ). with_place 8 a.args.found l a.args.standard.now) e.spread.ensures;
      values_after = (
        refl,
        c.note_variable.ensures
            ∙ ap (λ (x : ℕ). noted a.args.byte x a.args.places.now) (add-one a.args.found),
      );
      passed = c.pass.ensures;
    }
