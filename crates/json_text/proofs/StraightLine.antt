-- A straight line of calls that write a text into a lent buffer, part after part: what is written, and what is still to come.
use mathlib.Core.Path.{◌≡◌, sym, ◌∙◌, subst}
use mathlib.Core.List.{List, [], ◌++◌, append_assoc, append-nil}
use Prim.Native.Nat.{ℕ}
use Rattle.writing.specs.Appending.{Room, Put}
use Rattle.writing.proofs.appending.Appends.{put_nothing, put_front, put_more, first_room}

pub record Going (at : ℕ) (text o rest mid : List ℕ) (next : ℕ) : Type 0 where
  pub written : List ℕ
  pub put : Put at written o mid next
  pub same : text ≡ written ++ rest
  pub room : Room at text o

-- nothing of it yet, and all of it to come, as it is laid out in parts
pub start : {at : ℕ} {text o laid : List ℕ} → text ≡ laid → Room at text o → Going at text o laid o at
start {at} {text} {o} e h = record { written = []; put = put_nothing at o; same = e; room = h }

module _ {at next : ℕ} {text o mid : List ℕ} (x rest : List ℕ) (g : Going at text o (x ++ rest) mid next) where
  all : Room at (g.written ++ (x ++ rest)) o
  all = subst (λ (z : List ℕ). Room at z o) g.same g.room

  -- room for the next part
  pub going_room : Room next x mid
  going_room = put_front g.put x rest all

  -- it is written
  pub going_on : {last : ℕ} {after : List ℕ} → Put next x mid after last → Going at text o rest after last
  going_on {last} {after} p = record {
    written = g.written ++ x;
    put = put_more g.put (first_room at (g.written ++ x) rest o (subst (λ (z : List ℕ). Room at z o) (sym (append_assoc g.written x rest)) all)) p;
    same = g.same ∙ sym (append_assoc g.written x rest);
    room = g.room;
  }

-- all of it
pub going_end : {at next : ℕ} {text o mid : List ℕ} → Going at text o [] mid next → Put at text o mid next
going_end {at} {next} {text} {o} {mid} g = subst (λ (z : List ℕ). Put at z o mid next) (sym (g.same ∙ append-nil g.written)) g.put
