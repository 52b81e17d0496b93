-- M-110 and the two desks, equal multisets: the results are equal in their numbers and in each state's count.
use mathlib.Core.Path.{◌≡◌, refl, sym, ◌∙◌, ap, ap₂}
use mathlib.Core.Bool.{Bool, true, false, not, cond, true≢false, or-false}
use mathlib.Core.List.{List, [], ◌∷◌}
use Prim.Native.Nat.{ℕ, ◌-◌, ◌≤◌}
use native.Mathlib.Omega.{arith}
use lib.Dec.{T, ltb}
use borrow.Author.Tests.{le-ltb, ltb-false}
use Rattle.residue.specs.Lists.{some, same_list}
use Rattle.residue.proofs.Tests.{neither}
use Rattle.specification.specs.declared.settings.Settings.{Settings}
use Rattle.specification.specs.Refusal.{first_of}
use Rattle.specification.specs.Levels.{no_repeat}
use Rattle.specification.specs.Counted.{Counted, points_of, counts_of, count_of}
use Rattle.specification.specs.Tables.{Tables, too_short, held_in}
use Rattle.specification.specs.Adding.{holding}
use Rattle.specification.proofs.CallByCall.{known_entries}
use Rattle.specification.proofs.counted.Gathered.{Entries, once_gathered}
use Rattle.specification.proofs.counted.Few.{few_counts}
use Rattle.specification.proofs.agreement.Operations.{Passed}
use Rattle.specification.proofs.agreement.Refusals.{accepted, settings_pass, written_held}
use Rattle.specification.specs.LeaveOut.{without_variable, fewer, can_leave_out, leave_out_cases, leave_out_refusal, leave_out_outcome}
use Rattle.specification.specs.LeaveOutAgreement.{SameLengths, SameCounted}
use Rattle.specification.proofs.leaving.Without.{without_agree}
use Rattle.specification.proofs.leaving.Calls.{left_number, left_passed, left_outcome}

-- where no count is above 255 none of a point's is; `few_counts` is the converse
count_low : (G : Counted) (P : List ℕ) → some (ltb 255) (counts_of G) ≡ false → count_of P G ≤ 255
unfolding count_of
count_low [] P e = omega arith
count_low (q ∷ G) P e = let n = neither (ltb 255 q.1) (some (ltb 255) (counts_of G)) e in go (same_list P q.0) n.0 (count_low G P n.1)
  where
    go : (b : Bool) → ltb 255 q.1 ≡ false → count_of P G ≤ 255 → cond b q.1 (count_of P G) ≤ 255
    go true f k = ltb-false 255 q.1 f
    go false f k = k

same_beyond : (G H : Counted) → T (no_repeat (points_of G)) → T (no_repeat (points_of H)) → ((P : List ℕ) → count_of P G ≡ count_of P H) → some (ltb 255) (counts_of G) ≡ some (ltb 255) (counts_of H)
same_beyond G H t t' same = go (some (ltb 255) (counts_of G)) refl (some (ltb 255) (counts_of H)) refl
  where
    go : (x : Bool) → some (ltb 255) (counts_of G) ≡ x → (y : Bool) → some (ltb 255) (counts_of H) ≡ y → x ≡ y
    go true e true f = refl
    go false e false f = refl
    go true e false f = absurd (true≢false (sym e ∙ few_counts G t (λ P. rw (same P) (count_low H P f))))
    go false e true f = absurd (true≢false (sym f ∙ few_counts H t' (λ P. rw (← same P) (count_low G P e))))

-- lent tables of the same lengths are too short together
short_same : {u u' : Tables} → SameLengths u u' → too_short u ≡ too_short u'
unfolding too_short
short_same h = rw (h.states, h.standard, h.leads, h.coefficients, h.counts) refl

-- the number that is left of a sheet that is checked: 16, 6 of the lent tables, 13
pub passed_number : (s : Settings) (n r : ℕ) (t : Tables) (v : ℕ) (u : Tables) → Passed s n r t
    → leave_out_refusal s n r t v u ≡ first_of 0 ((not (can_leave_out s v), 16) ∷ (too_short u, 6) ∷ (some (ltb 255) (counts_of (without_variable (v - 1) (held_in s n t))), 13) ∷ [])
unfolding leave_out_refusal leave_out_cases first_of
passed_number s n r t v u h = settings_pass s h.fine _ ∙ rw (h.large, or-false (too_short u), h.known, le-ltb 64 n h.few) refl

module _ (s : Settings) (n r : ℕ) (t : Tables) (n' r' : ℕ) (t' : Tables) (h : Passed s n r t) (h' : Passed s n' r' t')
    (same : (P : List ℕ) → count_of P (held_in s n t) ≡ count_of P (held_in s n' t')) (v : ℕ) where
  entries : (m q : ℕ) (x : Tables) → Passed s m q x → Entries s (held_in s m x)
  entries m q x k = known_entries s (accepted s k.fine) m q x k.few k.known

  after : (P : List ℕ) → count_of P (without_variable (v - 1) (held_in s n t)) ≡ count_of P (without_variable (v - 1) (held_in s n' t'))
  after = without_agree (v - 1) (held_in s n t) (held_in s n' t') (entries n r t h).points.once (entries n' r' t' h').points.once same

  once_without : (L : Counted) → T (no_repeat (points_of (without_variable (v - 1) L)))
  unfolding without_variable
  once_without L = once_gathered _

  same_number : (u u' : Tables) → SameLengths u u' → leave_out_refusal s n r t v u ≡ leave_out_refusal s n' r' t' v u'
  same_number u u' e =
      passed_number s n r t v u h
      ∙ ap₂ (λ (x y : Bool). first_of 0 ((not (can_leave_out s v), 16) ∷ (x, 6) ∷ (y, 13) ∷ [])) (short_same e)
      (same_beyond (without_variable (v - 1) (held_in s n t)) (without_variable (v - 1) (held_in s n' t')) (once_without (held_in s n t)) (once_without (held_in s n' t')) after)
      ∙ sym (passed_number s n' r' t' v u' h')

  held_counts : (m q : ℕ) (x : Tables) (u : Tables) → leave_out_refusal s m q x v u ≡ 0 → (P : List ℕ)
      → let o = leave_out_outcome s m q x v u in count_of P (held_in (fewer v s) o.answer.n o.tables) ≡ count_of P (without_variable (v - 1) (held_in s m x))
  unfolding holding
  held_counts m q x u z P = let w = left_passed s m q x v u z in
      rw (left_outcome s m q x v u z) (ap (count_of P) (written_held (fewer v s) w.fine (without_variable (v - 1) (held_in s m x)) w.entries u))

  -- 'the number and each state's count for equal multisets'
  pub leaving_multisets : (u u' : Tables) → SameLengths u u' → SameCounted (fewer v s) (leave_out_outcome s n r t v u) (leave_out_outcome s n' r' t' v u')
  leaving_multisets u u' e = let z = left_number s n r t v u in let z' = left_number s n' r' t' v u' in record {
    number = z ∙ same_number u u' e ∙ sym z';
    counts = λ zero P. held_counts n r t u (sym z ∙ zero) P ∙ after P ∙ sym (held_counts n' r' t' u' (sym (same_number u u' e) ∙ sym z ∙ zero) P);
  }
