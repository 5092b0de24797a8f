-- How a writer knows the closed size: it counts the missing headers that have more than one octet.
use Rattle.std.specs.Prelude.{◌≡◌, ℕ, zero, suc, ◌+◌, ◌-◌, ◌<◌, ◌≤◌, min, nat_eq, if◌then◌else◌, List, [], ◌∷◌, length, map, slice_index, ⊤}
use Rattle.ion_binary.specs.declared.headers.HeaderPlace.{HeaderPlace}
use Rattle.ion_binary.specs.Places.{thresholds}

-- where a header goes in: the number of octets before it
abbrev pub place_of_header : HeaderPlace → ℕ
place_of_header h = h.place

-- the place of the header that k others are around, the innermost being the first of the list
abbrev pub place_around : List HeaderPlace → ℕ → ℕ
place_around [] k = 0
place_around (h ∷ hs) k = if nat_eq (length hs) k then h.place else place_around hs k

-- by how much the counts pass k, together
abbrev pub beyond : List ℕ → ℕ → ℕ
beyond [] k = 0
beyond (n ∷ ns) k = (n - k) + beyond ns k

-- the octets of the headers that k or more others are around: one each, and one more for each that is counted
abbrev pub sizes_from : List ℕ → ℕ → ℕ → ℕ
sizes_from counts total k = (total - k) + beyond counts k

-- the number of octets that the header is of that k others are around, where n octets are there
abbrev pub content_around : List ℕ → ℕ → List HeaderPlace → ℕ → ℕ
content_around counts n hs k = (n - place_around hs k) + sizes_from counts (length hs) (suc k)

-- the closed size
abbrev pub counted_length : List ℕ → ℕ → List HeaderPlace → ℕ
counted_length counts n hs = n + sizes_from counts (length hs) 0

-- the count before one: that of all headers before the first
abbrev pub most_at : List ℕ → ℕ → ℕ → ℕ
most_at counts total zero = total
most_at counts total (suc c) = slice_index counts c

-- there is a count for each threshold, none more than one before it, and each header that is counted reaches the threshold
pub record AreReached (counts : List ℕ) (n : ℕ) (hs : List HeaderPlace) : Type 0 where
  pub five : length counts ≡ 5
  pub within : (c : ℕ) → slice_index counts c ≤ length hs
  pub descend : (b c : ℕ) → b < c → slice_index counts c ≤ slice_index counts b
  pub reached : (c k : ℕ) → slice_index counts c ≡ suc k → slice_index thresholds c ≤ content_around counts n hs k

-- by so many of the counts, the next header that is not counted does not
abbrev pub AreSettledTo : ℕ → List ℕ → ℕ → List HeaderPlace → Type 0
AreSettledTo level counts n hs =
    (c : ℕ) → c < level → slice_index counts c < length hs → content_around counts n hs (slice_index counts c) < slice_index thresholds c

-- so many of the counts are those of the headers that are missing among n octets; the others are no higher than those
pub record IsCountedTo (level : ℕ) (counts : List ℕ) (n : ℕ) (hs : List HeaderPlace) : Type 0 where
  pub reached : AreReached counts n hs
  pub settled : AreSettledTo level counts n hs

-- all five counts are those of the headers that are missing among n octets
abbrev pub IsCounted : List ℕ → ℕ → List HeaderPlace → Type 0
IsCounted counts n hs = IsCountedTo 5 counts n hs

-- each header stands after those around it, and within n octets
abbrev pub ArePlaced : ℕ → List HeaderPlace → Type 0
ArePlaced n [] = ⊤
ArePlaced n (h ∷ hs) = (h.place ≤ n) × ArePlaced h.place hs

-- no more headers are counted than there are
abbrev pub cut : ℕ → List ℕ → List ℕ
cut total counts = map (λ n. min n total) counts
