-- `fields::read_end` meets its contract, by the bytes at the front of those from `at` on.
use mathlib.Core.Path.{◌≡◌, sym, ap, ◌∙◌}
use mathlib.Core.Bool.{Bool, true, false}
use mathlib.Core.List.{List}
use Prim.Native.Nat.{ℕ, ◌+◌, ◌-◌, ◌<◌, ◌≤◌}
use native.Mathlib.Omega.{arith}
use lib.ListN.{length, get_or, take, drop}
use lib.Seq.{drop-drop}
use Rattle.std.specs.Prelude.{Some, None}
use Rattle.std.proofs.Common.{rules}
use Rattle.notation.specs.Fields.{field, broken, ending, lf}
use Rattle.notation.specs.Spans.{ended_by, EndRead}
use Rattle.notation.proofs.Numbers.{end_says}
use Rattle.notation.proofs.fields.FieldEnds.{end_text, end_comma, end_lf, end_other, end_cr, end_cr_other, end_crlf}
use Rattle.notation.proofs.fields.FieldSpans.{all_behind, rest_size, rest_first}
use Rattle.notation.proofs.fields.read_end.Goals as goal

module _ (t : List ℕ) (at : ℕ) where
  abbrev rest : List ℕ
  rest = take (length t - at) (drop at t)

  ends : (k : ℕ) (more : Bool) → at + k ≤ length t → ((content : List ℕ) → ending content rest ≡ field content more (drop k rest))
      → EndRead t at false (Some (record { more = more; next = at + k }))
  unfolding ended_by
  ends k more h e =
      end_says (λ content. ap (field content more) (sym (ap (drop k) (all_behind t at) ∙ drop-drop k at t)) ∙ sym (e content) ∙ ap (ending content) (all_behind t at)) h

  breaks : ((content : List ℕ) → ending content rest ≡ broken) → EndRead t at false None
  unfolding ended_by
  breaks e = end_says (λ content. sym (e content) ∙ ap (ending content) (all_behind t at)) tt

  -- the byte behind the first, where there is one
  second : 1 < length rest → get_or (take (length rest - 1) (drop 1 rest)) 0 0 ≡ get_or rest 1 0
  second h = rest_first rest 1 h

pub returns-in_default : goal.returns-in_default
unfolding ended_by
returns-in_default c = let a = c.args in
    end_says (λ content. sym (end_text content a.text.now a.at (omega (arith, rest_size a.text.now a.at, c.in_default.len_below)))) (omega arith)

pub returns-in-44 : goal.returns-in-44
returns-in-44 c = let a = c.args in
    let h : 0 < length (rest a.text.now a.at) = search rules in
    ends a.text.now a.at 1 true (omega (arith, rest_size a.text.now a.at)) (λ content. end_comma content (rest a.text.now a.at) 0 h (search rules))

pub returns-in-10 : goal.returns-in-10
returns-in-10 c = let a = c.args in
    let h : 0 < length (rest a.text.now a.at) = search rules in
    ends a.text.now a.at 1 false (omega (arith, rest_size a.text.now a.at)) (λ content. end_lf content (rest a.text.now a.at) 0 h (search rules) (search rules))

pub returns-in-10-rest : goal.returns-in-10-rest
returns-in-10-rest c = let a = c.args in
    let l = rest a.text.now a.at in
    let n = rest_size a.text.now a.at in
    let m = rest_size l 1 in
    let k : 1 < length l = omega (arith, c.in-10-rest.len_at_least) in
    let f : get_or l 1 0 ≡ lf = rw (← second a.text.now a.at k) (search rules) in
    ends a.text.now a.at 2 false (omega arith) (λ content. end_crlf content l 0 (omega arith) (search rules) (search rules) (search rules) k f)

pub returns-in_default-rest : goal.returns-in_default-rest
returns-in_default-rest c = let a = c.args in
    let l = rest a.text.now a.at in
    let h : 0 < length l = search rules in
    let m = rest_size l 1 in
    breaks a.text.now a.at (λ content. end_cr content l 0 h (search rules) (search rules) (search rules) (omega (arith, c.in_default-rest.len_below)))

pub returns-in_default-rest-2 : goal.returns-in_default-rest-2
returns-in_default-rest-2 c = let a = c.args in
    let l = rest a.text.now a.at in
    let m = rest_size l 1 in
    let k : 1 < length l = omega (arith, c.in_default-rest.len_at_least) in
    let o : get_or l 1 0 ≡ lf → ⊥ = rw (← second a.text.now a.at k) (search rules) in
    breaks a.text.now a.at (λ content. end_cr_other content l 0 (omega arith) (search rules) (search rules) (search rules) k o)

pub returns-in_default-first : goal.returns-in_default-first
returns-in_default-first c = let a = c.args in
    breaks a.text.now a.at (λ content. end_other content (rest a.text.now a.at) 0 (search rules) (search rules) (search rules) (search rules))
