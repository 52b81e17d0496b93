-- What is claimed of every list of operations: docs/SCOPE.md, 'The two desks', as one statement. proofs/agreement has its proof.
use Rattle.std.specs.Prelude.{◌≡◌, false, ◌↔◌, ℕ, suc, ◌+◌, ◌*◌, ◌-◌, ◌%◌, ◌≤◌, ℤ, length, take, T}
use mathlib.Core.List.{List, [], zip}
use Rattle.residue.specs.Sizes.{most_rows, states_size, standard_size, leads_size, coefficients_size, counts_size}
use Rattle.residue.specs.Lists.{Among, every}
use Rattle.residue.specs.Layout.{fill, over, begins}
use Rattle.specification.specs.declared.settings.Settings.{Settings}
use Rattle.specification.specs.Levels.{in_range, residues}
use Rattle.specification.specs.Counted.{Counted, points_of, counts_of, is_count, count_of, times_in}
use Rattle.specification.specs.Polynomial.{eval}
use Rattle.specification.specs.Basis.{IsBasis, Fits}
use Rattle.specification.specs.BasisOf.{value_at}
use Rattle.specification.specs.Tables.{Tables, row_count, tables_of, written, too_short, points_in, held_in}
use Rattle.specification.specs.Tables.{space_under, points_under, standard_under, leads_under, rows_under}
use Rattle.specification.specs.Adding.{Outcome, points_offered, draw_outcome, uncosted, draw_packed_outcome}
use Rattle.specification.specs.Solving.{interpolate_outcome, polynomial_under, remainder_outcome, Listed, wiring_outcome}
use Rattle.specification.specs.Needed.{Needed, Names}
use Rattle.specification.specs.LeaveOut.{fewer, leave_out_outcome}
use Rattle.specification.specs.LeaveOutAgreement.{SameLengths, SameSheet, SameCounted}
use Rattle.specification.specs.Reference.{Event, Held, numbers, due}
use Rattle.specification.specs.Calls.{Request, handed, number_of, number_with}
use Rattle.specification.specs.CallByCall.{Interpolates}
use Rattle.residue.specs.Level.{residue_of}

-- Fresh tables: none is shorter than its size, and every byte of the sizes is 0.
pub record Fresh (t : Tables) : Type 0 where
  pub states : T (begins (fill states_size []) t.states)
  pub standard : T (begins (fill standard_size []) t.standard)
  pub leads : T (begins (fill leads_size []) t.leads)
  pub coefficients : T (begins (fill coefficients_size []) t.coefficients)
  pub counts : T (begins (fill counts_size []) t.counts)

-- n = 0, r = 1
unfoldable pub freshly : Tables → Held
freshly t = record { n = 0; r = 1; tables = t }

-- Levels that offer the points of L and no other, each at least once ('equal sets'; request M-106).
abbrev pub SameSet : Settings → Counted → List ℤ → Type 0
SameSet s L levels = (P : List ℕ) → Among P (points_offered s levels) ↔ Among P (points_of L)

-- The points of L, each as many times as L counts it ('equal multisets'), in any order and as any levels in range with their residues.
pub record Arranges (s : Settings) (L : Counted) (levels : List ℤ) : Type 0 where
  pub whole : length levels % s.variables ≡ 0
  pub range : T (in_range s.modulus levels)
  pub times : (P : List ℕ) → times_in P (points_offered s levels) ≡ count_of P L

-- Values of any number and content that two calls are handed with the same points in the orders K and L: as many, and equal at each point. Two levels are
-- equal when they have one residue, or neither is in range (docs/SCOPE.md, 'The two desks'; request M-100).
pub record SameValues (s : Settings) (K L : List (List ℕ)) (v w : List ℤ) : Type 0 where
  pub count : length v ≡ length w
  pub equal : (P : List ℕ) (y z : ℤ) → Among (P, y) (zip K v) → Among (P, z) (zip L w) → residue_of s.modulus y ≡ residue_of s.modulus z

-- A drawing up agrees with what the list holds: n, r and the three tables are equal in each byte of their sizes. (Its cancellations depend on the order of
-- its points, and the list has none.) The remainder call, handed the same terms, and the interpolant and wiring calls, handed values that are equal at each
-- point, each desk's in the order of its own points, answer the same with either tables, and leave equal buffers where they were lent buffers of equal bytes.
pub record SameAs (s : Settings) (h : Held) (o : Outcome) : Type 0 where
  pub count : o.answer.n ≡ h.n
  pub rows : o.answer.r ≡ h.r
  pub standard : take standard_size o.tables.standard ≡ take standard_size h.tables.standard
  pub leads : take leads_size o.tables.leads ≡ take leads_size h.tables.leads
  pub coefficients : take coefficients_size o.tables.coefficients ≡ take coefficients_size h.tables.coefficients
  pub remainder : (terms : List ℤ) (exponents buffer : List ℕ)
      → remainder_outcome s o.answer.n o.answer.r o.tables terms exponents buffer
      ≡ remainder_outcome s h.n h.r h.tables terms exponents buffer
  pub interpolant : (v w : List ℤ) (buffer : List ℕ) → SameValues s (points_in s o.answer.n o.tables.states) (points_in s h.n h.tables.states) v w
      → interpolate_outcome s o.answer.n o.answer.r o.tables v buffer ≡ interpolate_outcome s h.n h.r h.tables w buffer
  pub wiring : (v w : List ℤ) (buffer : List ℕ) → SameValues s (points_in s o.answer.n o.tables.states) (points_in s h.n h.tables.states) v w
      → wiring_outcome s o.answer.n o.answer.r o.tables v buffer ≡ wiring_outcome s h.n h.r h.tables w buffer

-- Besides, the number is 0, and 'each state's count agrees'.
pub record SameCounts (s : Settings) (h : Held) (o : Outcome) : Type 0 where
  pub number : o.answer.refusal ≡ 0
  pub agrees : SameAs s h o
  pub counts : (P : List ℕ) → count_of P (held_in s o.answer.n o.tables) ≡ count_of P (held_in s h.n h.tables)

-- Leaving a variable out (request M-110), with L the reference list and h what is held.
pub record LeavesAlike (s : Settings) (L : Counted) (h : Held) : Type 0 where
  pub drawn : (t : Tables) (levels : List ℤ) → SameSet s L levels → let o = draw_outcome s t levels in o.answer.refusal ≡ 0
      → (v : ℕ) (u u' : Tables) → SameLengths u u'
      → let a = leave_out_outcome s o.answer.n o.answer.r o.tables v u in let b = leave_out_outcome s h.n h.r h.tables v u' in
      a.answer.refusal ≡ 0 → b.answer.refusal ≡ 0 → SameSheet a b
  pub arranged : (t : Tables) (levels : List ℤ) → too_short t ≡ false → Arranges s L levels
      → (v : ℕ) (u u' : Tables) → SameLengths u u' → let o = draw_outcome s t levels in
      SameCounted (fewer v s) (leave_out_outcome s o.answer.n o.answer.r o.tables v u) (leave_out_outcome s h.n h.r h.tables v u')

-- The buffer of a remainder call whose number is 0 holds the one combination of standard monomials with the polynomial's values at the points.
pub record Remains (s : Settings) (L : List (List ℕ)) (terms : List ℤ) (exponents buffer end : List ℕ) : Type 0 where
  pub coefficients : List ℕ
  pub held : end ≡ over (fill 64 coefficients) buffer
  pub fits : Fits (space_under s) (points_under s L) (standard_under s L) (eval (space_under s) (polynomial_under s terms exponents)) coefficients

-- The buffer of a wiring call whose number is 0 holds the numbers, increasing, of the variables on which every function with these values at the points
-- depends.
pub record Wires (s : Settings) (L : List (List ℕ)) (values : List ℤ) (buffer : List ℕ) (end : Listed) : Type 0 where
  pub names : List ℕ
  pub named : Names s.variables
      (Needed (suc (s.modulus - 1)) s.variables (points_under s L) (value_at (space_under s) (points_under s L) (residues s.modulus values))) names
  pub few : length names ≤ 8
  pub count : end.answer.count ≡ length names
  pub held : end.buffer ≡ over (fill 8 names) buffer

-- After the list `es` from fresh tables `start`, with L the reference list then and h what is held.
pub record Agrees (s : Settings) (start : Tables) (es : List Event) (L : Counted) (h : Held) : Type 0 where
  -- each operation of the list has returned the reference list's answer, each interposed call its number of the list of refusals
  pub answers : numbers s (freshly start) es ≡ due s [] (freshly start) es
  -- n is its length; the tables are those of its points, in its order, with its counts, and zeros in the rest of their sizes; bytes past the sizes are as
  -- they were
  pub count : h.n ≡ length L
  pub rows : h.r ≡ row_count s (points_of L)
  pub tables : h.tables ≡ written (tables_of s L) start
  -- read back, they are the list: its counts 'are those of the fifth table'
  pub held : held_in s h.n h.tables ≡ L
  -- these are the basis by definition, as many standard monomials as points; nothing of it is cut off in the tables
  pub basis : IsBasis (space_under s) (points_under s (points_of L)) (standard_under s (points_of L)) (leads_under s (points_of L)) (rows_under s (points_of L))
  pub as_many : length (standard_under s (points_of L)) ≡ length L
  pub few_points : length L ≤ 64
  pub few_replicates : T (every is_count (counts_of L))
  pub few_rows : row_count s (points_of L) ≤ most_rows
  pub most_rows_lem : h.r ≤ 1 + h.n * (s.variables - 1)
  -- every drawing up of its points that returns 0; every drawing up of its points with its counts into tables none of which is shorter than its size
  pub drawn : (t : Tables) (levels : List ℤ) → SameSet s L levels → (draw_outcome s t levels).answer.refusal ≡ 0 → SameAs s h (uncosted (draw_outcome s t levels))
  pub arranged : (t : Tables) (levels : List ℤ) → too_short t ≡ false → Arranges s L levels → SameCounts s h (uncosted (draw_outcome s t levels))
  -- 'Where p = 2, agreement of the desks now covers three ways' (request M-108): drawing up with words, with the list and with the other drawing up
  pub drawn_packed : s.modulus ≡ 2 → (t : Tables) (levels : List ℤ) → SameSet s L levels → (draw_packed_outcome s t levels).answer.refusal ≡ 0
      → SameAs s h (draw_packed_outcome s t levels)
  pub arranged_packed : s.modulus ≡ 2 → (t : Tables) (levels : List ℤ) → too_short t ≡ false → Arranges s L levels
      → SameCounts s h (draw_packed_outcome s t levels)
  pub both_drawn : s.modulus ≡ 2 → (t : Tables) (levels : List ℤ) → draw_packed_outcome s t levels ≡ uncosted (draw_outcome s t levels)
  -- leaving a variable out of what is held and out of those drawings up
  pub leaving : LeavesAlike s L h
  -- every call that is handed what is held: its number is told by the reference list and its other arguments. Where it is 0, the buffer holds what is due
  pub requests : (q : Request) → number_of (handed q s h.n h.r h.tables) ≡ number_with q s L
  pub interpolants : (values : List ℤ) (buffer : List ℕ) → (interpolate_outcome s h.n h.r h.tables values buffer).refusal ≡ 0
      → Interpolates s (points_of L) values buffer (interpolate_outcome s h.n h.r h.tables values buffer).buffer
  pub remainders : (terms : List ℤ) (exponents buffer : List ℕ) → (remainder_outcome s h.n h.r h.tables terms exponents buffer).refusal ≡ 0
      → Remains s (points_of L) terms exponents buffer (remainder_outcome s h.n h.r h.tables terms exponents buffer).buffer
  pub wirings : (values : List ℤ) (buffer : List ℕ) → (wiring_outcome s h.n h.r h.tables values buffer).answer.refusal ≡ 0
      → Wires s (points_of L) values buffer (wiring_outcome s h.n h.r h.tables values buffer)
