-- What there is room for, call by call: 9 comes before 8, in drawing up as in adding (request M-106), and a full basis takes another point after a
-- withdrawal (M-103).
use mathlib.Core.Path.{◌≡◌, refl, sym, ◌∙◌, ap}
use mathlib.Core.Bool.{Bool, true, false}
use mathlib.Core.List.{List}
use Prim.Native.Nat.{ℕ, suc, ◌%◌, ◌<◌}
use native.Mathlib.Omega.{arith}
use lib.IntN.{ℤ}
use lib.ListN.{length}
use lib.Dec.{T}
use borrow.Author.Tests.{eq-eqb, ne_eqb}
use Rattle.residue.proofs.Tests.{true_of}
use Rattle.specification.specs.declared.settings.Settings.{Settings}
use Rattle.specification.specs.Refusal.{first_of}
use Rattle.specification.specs.Settings.{Accepted}
use Rattle.specification.specs.Levels.{in_range, residues, is_among}
use Rattle.specification.specs.Counted.{Counted, points_of, entered, lowered, overfull, count_of}
use Rattle.specification.specs.Tables.{Tables, too_short, held_in}
use Rattle.specification.specs.Adding.{add_outcome, draw_cases, draw_refusal, draw_outcome}
use Rattle.specification.specs.Withdrawing.{withdraw_refusal, withdraw_outcome}
use Rattle.specification.specs.Reference.{adding, withdrawing, outcome_of, refusal_of, reference_answer}
use Rattle.specification.specs.Calls.{operating, ending_of, number_with}
use Rattle.specification.specs.CallByCall.{HoldsBasis}
use Rattle.specification.proofs.agreement.Refusals.{accepted, not_refused, settings_pass}
use Rattle.specification.proofs.agreement.Operations.{Passed, lawful}
use Rattle.specification.proofs.agreement.Run.{number_of_lem}
use Rattle.specification.proofs.counted.Gathered.{Entries}
use Rattle.specification.proofs.counted.Lowered.{left_one}
use Rattle.specification.proofs.counted.Held.{length_held}
use Rattle.specification.proofs.counted.Room.{room_there, room_new}
use Rattle.specification.proofs.CallByCall.{drawn_number, withdraw_leaves, basis_entries}
use Rattle.specification.proofs.Numbers.{basis_numbers}

-- Levels out of range get 9, whatever room there is: 'the 65th state with levels out of range gets 9'.
pub draw_range : (s : Settings) → Accepted s → (t : Tables) → too_short t ≡ false → (levels : List ℤ) → length levels % s.variables ≡ 0
    → in_range s.modulus levels ≡ false → (draw_outcome s t levels).answer.refusal ≡ 9
unfolding draw_refusal draw_cases first_of
draw_range s ok t large levels whole out =
    drawn_number s t levels ∙ settings_pass s (not_refused s ok) _ ∙ rw (large, eq-eqb (length levels % s.variables) 0 whole, out)

-- Calls that are handed a basis, laid out in tables long enough.
module _ (s : Settings) (ok : Accepted s) (L : Counted) (lent : Tables) (large : too_short lent ≡ false) {n r : ℕ} {t : Tables}
    (h : HoldsBasis s L lent n r t) where
  pub add_range : (levels : List ℤ) → length levels ≡ s.variables → in_range s.modulus levels ≡ false → (add_outcome s n r t levels).answer.refusal ≡ 9
  unfolding ending_of outcome_of number_with reference_answer first_of
  add_range levels long out = basis_numbers s ok L lent large n r t h (operating (adding levels)) ∙ rw (eq-eqb (length levels) s.variables long, out)

  -- A basis of fewer than 64 points takes any other, and any replicate up to 255.
  pub add_taken : (levels : List ℤ) → n < 64 → length levels ≡ s.variables → T (in_range s.modulus levels) → count_of (residues s.modulus levels) L < 255
      → (add_outcome s n r t levels).answer.refusal ≡ 0
  unfolding ending_of outcome_of number_with reference_answer first_of
  add_taken levels few long range low =
      basis_numbers s ok L lent large n r t h (operating (adding levels))
      ∙ rw (eq-eqb (length levels) s.variables long, true_of (in_range s.modulus levels) range) (go (is_among P (points_of L)) refl)
    where
      P : List ℕ
      P = residues s.modulus levels

      entries : Entries s L
      entries = basis_entries s ok L h

      go : (b : Bool) → is_among P (points_of L) ≡ b → first_of 0 (overfull (entered P L)) ≡ 0
      go true e = room_there s P L entries e ∙ rw (ne_eqb (count_of P L) 255 (λ z. omega (arith, z, low))) refl
      go false e = room_new s P L entries e ∙ rw (ne_eqb (length L) 64 (λ z. omega (arith, z, few, h.count))) refl

-- Request M-103: 'A sheet that was full takes one more afterwards'. A withdrawal that takes a point out makes room for any other.
pub withdraw_makes_room : (s : Settings) (n r : ℕ) (t : Tables) (levels : List ℤ) → let o = withdraw_outcome s n r t levels in
    let P = residues s.modulus levels in o.answer.refusal ≡ 0 → count_of P (held_in s n t) ≡ 1
    → (suc o.answer.n ≡ n) × ((more : List ℤ) → length more ≡ s.variables → T (in_range s.modulus more)
    → count_of (residues s.modulus more) (lowered P (held_in s n t)) < 255 → (add_outcome s o.answer.n o.answer.r o.tables more).answer.refusal ≡ 0)
unfolding refusal_of withdraw_outcome
withdraw_makes_room s n r t levels e one = (
  fewer,
  λ more long range low.
      add_taken s ok (lowered P L) t passed.large left more (omega (arith, fewer, passed.few)) long range low,
)
  where
    P : List ℕ
    P = residues s.modulus levels

    L : Counted
    L = held_in s n t

    passed : Passed s n r t
    passed = (lawful (withdrawing levels)).passed s n r t (sym (number_of_lem (withdraw_refusal s n r t levels) t s (lowered P L)) ∙ e)

    ok : Accepted s
    ok = accepted s passed.fine

    left : let o = withdraw_outcome s n r t levels in HoldsBasis s (lowered P L) t o.answer.n o.answer.r o.tables
    left = withdraw_leaves s n r t levels e

    fewer : suc (withdraw_outcome s n r t levels).answer.n ≡ n
    fewer = ap suc left.count ∙ left_one P L one ∙ length_held s n t
