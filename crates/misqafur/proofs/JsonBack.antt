-- What C takes out of the numbers that the two JSON calls return.
use mathlib.Core.Path.{◌≡◌, sym, ◌∙◌}
use mathlib.Core.Logic.{◌≢◌}
use mathlib.Core.List.{List, [], ◌∷◌}
use Prim.Native.Nat.{ℕ, ◌+◌, ◌*◌, ◌≤◌}
use native.Mathlib.Omega.{arith}
use Rattle.specification.specs.declared.settings.Settings.{Settings}
use Rattle.specification.specs.Tables.{Tables}
use Rattle.json_sheets.specs.Calls.{Written, Taken, write_outcome, read_outcome}
use Rattle.json_sheets.proofs.Numbers.{write_few, write_never_eleven, read_fits, read_never_eleven}
use Rattle.misqafur.specs.Packing.{packed, packed_written, packed_taken}
use Rattle.misqafur.specs.Unpacking.{refusal_from, points_from, count_from, modulus_from, variables_from, order_from, course_elements_from}

-- a refusal or 0, and a length
length_back : (a b : ℕ) → a ≤ 255 → (refusal_from (packed (a ∷ b ∷ [])) ≡ a) × (count_from (packed (a ∷ b ∷ [])) ≡ b)
unfolding refusal_from count_from
length_back a b h = (omega arith, omega arith)

-- a refusal or 0, n, the settings and r
sheet_back : (a n p m o r : ℕ) → a ≤ 255 → n ≤ 255 → p ≤ 255 → m ≤ 255 → o ≤ 15 → r ≤ 1023 → let k = packed (a ∷ n ∷ p ∷ m ∷ (o + 16 * r) ∷ []) in
    (refusal_from k ≡ a) × (points_from k ≡ n) × (modulus_from k ≡ p) × (variables_from k ≡ m) × (order_from k ≡ o) × (course_elements_from k ≡ r)
unfolding refusal_from points_from modulus_from variables_from order_from course_elements_from
sheet_back a n p m o r ha hn hp hm ho hr = (omega arith, omega arith, omega arith, omega arith, omega arith, omega arith)

module _ (s : Settings) (n r : ℕ) (t : Tables) (buffer : List ℕ) where
  abbrev pub w : Written
  w = (write_outcome s n r t buffer).answer

  pub write_parts : (refusal_from (packed_written w) ≡ w.refusal) × (count_from (packed_written w) ≡ w.count)
  write_parts = length_back w.refusal w.count (omega (arith, write_few s n r t buffer))

  pub write_json_never_eleven : refusal_from (packed_written w) ≢ 11
  write_json_never_eleven e = write_never_eleven s n r t buffer (sym write_parts.0 ∙ e)

module _ (text : List ℕ) (t : Tables) (weights : List ℕ) where
  abbrev pub a : Taken
  a = (read_outcome text t weights).answer

  pub read_parts : let k = packed_taken a in
      (refusal_from k ≡ a.refusal) × (points_from k ≡ a.n) × (modulus_from k ≡ a.modulus) × (variables_from k ≡ a.variables) × (order_from k ≡ a.order)
      × (course_elements_from k ≡ a.r)
  read_parts = let f = read_fits text t weights in
      sheet_back a.refusal a.n a.modulus a.variables a.order a.r
      (omega (arith, f.number)) (omega (arith, f.n)) (omega (arith, f.modulus)) (omega (arith, f.variables)) (omega (arith, f.order)) (omega (arith, f.r))

  pub read_json_never_eleven : refusal_from (packed_taken a) ≢ 11
  read_json_never_eleven e = read_never_eleven text t weights (sym read_parts.0 ∙ e)
