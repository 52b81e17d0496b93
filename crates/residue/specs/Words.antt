-- Words of bits: the bit at a place, the first bits of a word as a list, and the word of a list of bits. The lowest bit is the first.
use Rattle.std.specs.Prelude.{List, [], ◌∷◌, map, ◌≡◌, refl, ℕ, zero, suc, ◌+◌, ◌*◌, ◌/◌, ◌%◌, ◌^◌, length, get_or}
use Rattle.std.proofs.Common.{ap}

-- bit i of a word
unfoldable pub bit_of : ℕ → ℕ → ℕ
bit_of i w = w / 2 ^ i % 2

-- the first k bits
unfoldable pub bits_of : ℕ → ℕ → List ℕ
bits_of zero w = []
bits_of (suc k) w = w % 2 ∷ bits_of k (w / 2)

-- the word whose bits are the residues of the list
unfoldable pub word_of : List ℕ → ℕ
word_of [] = 0
word_of (b ∷ l) = word_of l * 2 + b % 2

-- the column of a function at points: bit i is its residue at point i
unfoldable pub column_of : {A : Type 0} → (A → ℕ) → List A → ℕ
column_of φ S = word_of (map φ S)

pub length_bits : (k w : ℕ) → length (bits_of k w) ≡ k
unfolding bits_of
length_bits zero w = refl
length_bits (suc k) w = ap suc (length_bits k (w / 2))

-- the first k bytes of a word, the lowest first
unfoldable pub bytes_of : ℕ → ℕ → List ℕ
bytes_of zero w = []
bytes_of (suc k) w = w % 256 ∷ bytes_of k (w / 256)

-- 1 where i is in the set whose bits, 64 to a word, the list has
unfoldable pub in_set : ℕ → List ℕ → ℕ
in_set i words = bit_of (i % 64) (get_or words (i / 64) 0)
