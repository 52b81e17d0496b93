-- `lines::print_basis` meets its contract: its five parts one after the other.
use mathlib.Core.Path.{◌≡◌, sym, ◌∙◌, ap, ap₂}
use mathlib.Core.List.{List, ◌++◌, map}
use lib.ListN.{take}
use Rattle.residue.specs.Layout.{groups}
use Prim.Native.Nat.{ℕ}
use Rattle.printing.specs.Lines.{interpolant_word, wiring_word, line, first_line, standard_lines, row_lines, basis_lines}
use Rattle.writing.specs.Appending.{Room, Put}
use Rattle.writing.specs.Rows.{in_table}
use Rattle.writing.proofs.appending.Appends.{first_room, put_room, put_front, put_more}
use Rattle.writing.proofs.TableRows.{length_table, rows_are}
use Rattle.printing.proofs.lines.print_basis.Goals as goal
use Rattle.printing.proofs.lines.print_basis.Goals.{After-put_first_line-first, After-put_line-last, After-put_rows-end, After-put_standard-middle, Start}

abbrev wired : Start → List ℕ
wired s = line wiring_word s.args.names.now

abbrev solved : Start → List ℕ
solved s = line interpolant_word s.args.interpolant.now

abbrev rows : Start → List ℕ
rows s = row_lines (in_table 8 s.args.r s.args.m s.args.leads.now) (in_table 64 s.args.r s.args.n s.args.coefficients.now)

abbrev standards : Start → List ℕ
standards s = standard_lines (in_table 8 s.args.n s.args.m s.args.standard.now)

text : (s : Start)
    → basis_lines
    (in_table 8 s.args.n s.args.m s.args.standard.now)
    (in_table 8 s.args.r s.args.m s.args.leads.now)
    (in_table 64 s.args.r s.args.n s.args.coefficients.now)
    s.args.interpolant.now
    s.args.names.now
    ≡ first_line s.args.n s.args.r ++ (standards s ++ (rows s ++ (solved s ++ wired s)))
unfolding basis_lines
text s =
    ap₂ (λ (n r : ℕ). first_line n r ++ (standards s ++ (rows s ++ (solved s ++ wired s))))
    (length_table 8 s.args.n s.args.m s.args.standard.now)
    (length_table 8 s.args.r s.args.m s.args.leads.now)

room : (s : Start) → Room 0 (first_line s.args.n s.args.r ++ (standards s ++ (rows s ++ (solved s ++ wired s)))) s.args.out.now
room s = rw (text s) at s.requires.room

-- The places: behind the first line, the standard lines, the row lines, the interpolant's line. Each names the one before it.
abbrev start : After-put_first_line-first → Start
start p = (goal.at.After-put_first_line-first p).Start

abbrev first : After-put_standard-middle → After-put_first_line-first
first p = (goal.at.After-put_standard-middle p).After-put_first_line-first

abbrev second : After-put_rows-end → After-put_standard-middle
second p = (goal.at.After-put_rows-end p).After-put_standard-middle

abbrev third : After-put_line-last → After-put_rows-end
third p = (goal.at.After-put_line-last p).After-put_rows-end

-- what the standard lines and the row lines say of their tables
told : (s : Start) {leads coefficients : List (List ℕ)} → leads ≡ groups 8 s.args.r s.args.leads.now → coefficients ≡ groups 64 s.args.r s.args.coefficients.now
    → row_lines (map (take s.args.m) leads) (map (take s.args.n) coefficients) ≡ rows s
told s e f = ap₂ row_lines (rows_are 8 s.args.r s.args.m s.args.leads.now e) (rows_are 64 s.args.r s.args.n s.args.coefficients.now f)

stood : (s : Start) {standard : List (List ℕ)} → standard ≡ groups 8 s.args.n s.args.standard.now → standard_lines (map (take s.args.m) standard) ≡ standards s
stood s e = ap standard_lines (rows_are 8 s.args.n s.args.m s.args.standard.now e)

middle : (p : After-put_standard-middle) → Put p.put_first_line-first.result (standards (start (first p))) p.put_first_line-first.new.out p.put_standard-middle.new.out p.put_standard-middle.result
middle p = rw (stood (start (first p)) p.rows.ensures.value) at p.put_standard-middle.ensures

table : (p : After-put_rows-end) → Put p.put_standard-middle.result (rows (start (first (second p)))) p.put_standard-middle.new.out p.put_rows-end.new.out p.put_rows-end.result
table p = rw (told (start (first (second p))) p.rows-2.ensures.value p.rows-3.ensures.value) at p.put_rows-end.ensures

pub put_first_line-first-requires : goal.put_first_line-first-requires
put_first_line-first-requires c = let s = c in
    first_room 0 (first_line s.args.n s.args.r) (standards (goal.at.put_first_line-first-requires s).Start ++ (rows (goal.at.put_first_line-first-requires s).Start ++ (solved (goal.at.put_first_line-first-requires s).Start ++ wired (goal.at.put_first_line-first-requires s).Start))) s.args.out.now (room (goal.at.put_first_line-first-requires s).Start)

pub put_standard-middle-requires : goal.put_standard-middle-requires
put_standard-middle-requires c =
    let p₁ = (goal.at.put_standard-middle-requires c).After-put_first_line-first in
    let s = start p₁ in record {
      m_bound = s.requires.m_bound.0;
      room = rw (stood s c.rows.ensures.value) (put_front p₁.put_first_line-first.ensures (standards s) (rows s ++ (solved s ++ wired s)) (room s));
    }

pub put_rows-end-requires : goal.put_rows-end-requires
put_rows-end-requires c =
    let p₂ = (goal.at.put_rows-end-requires c).After-put_standard-middle in
    let p₁ = first p₂ in
    let s = start p₁ in record {
      m_bound = (s.requires.m_bound.0, s.requires.m_bound.1);
      as_many = c.rows-2.ensures.len ∙ sym c.rows-3.ensures.len;
      room = rw (told s c.rows-2.ensures.value c.rows-3.ensures.value)
          (put_front (middle p₂) (rows s) (solved s ++ wired s) (put_room p₁.put_first_line-first.ensures (standards s ++ (rows s ++ (solved s ++ wired s))) (room s)));
    }

pub put_line-last-requires : goal.put_line-last-requires
put_line-last-requires c = let p₃ = (goal.at.put_line-last-requires c).After-put_rows-end in
    let p₂ = second p₃ in
    let p₁ = first p₂ in
    let s = start p₁ in
    put_front {a = rows s} (table p₃) (solved s) (wired s)
    (put_room (middle p₂) (rows s ++ (solved s ++ wired s))
    (put_room p₁.put_first_line-first.ensures (standards s ++ (rows s ++ (solved s ++ wired s))) (room s)))

pub put_line-requires : goal.put_line-requires
put_line-requires c = let p₄ = c in
    let p₃ = third (goal.at.put_line-requires p₄).After-put_line-last in
    let p₂ = second p₃ in
    let p₁ = first p₂ in
    let s = start p₁ in
    put_room {a = solved s} p₄.put_line-last.ensures (wired s)
    (put_room {a = rows s} (table p₃) (solved s ++ wired s)
    (put_room (middle p₂) (rows s ++ (solved s ++ wired s))
    (put_room p₁.put_first_line-first.ensures (standards s ++ (rows s ++ (solved s ++ wired s))) (room s))))

pub returns : goal.returns
returns c = let p₄ = c in
    let p₃ = third (goal.at.returns p₄).After-put_line-last in
    let p₂ = second p₃ in
    let p₁ = first p₂ in
    let s = start p₁ in
    let k₁ = room s in
    let k₂ = put_room p₁.put_first_line-first.ensures (standards s ++ (rows s ++ (solved s ++ wired s))) k₁ in
    let k₃ = put_room (middle p₂) (rows s ++ (solved s ++ wired s)) k₂ in
    let k₄ = put_room {a = rows s} (table p₃) (solved s ++ wired s) k₃ in
    rw (text s)
    (put_more p₁.put_first_line-first.ensures k₁
    (put_more (middle p₂) k₂
    (put_more {a = rows s} (table p₃) k₃ (put_more {a = solved s} p₄.put_line-last.ensures k₄ c.put_line.ensures))))
