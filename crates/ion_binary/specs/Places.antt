-- Where the headers of open containers go in, and the closed size by these places alone.
use Rattle.std.specs.Prelude.{◌≡◌, ℕ, suc, ◌+◌, ◌-◌, ◌^◌, ◌<◌, ◌≤◌, nat_lt, if◌then◌else◌, List, [], ◌∷◌, ◌++◌, length, sum, ⊤}
use Rattle.ion_binary.specs.Canonical.{length_octets}
use Rattle.ion_binary.specs.Writing.{Unclosed, all_closed}

-- the octets of an open value that are there before any of its containers is closed
abbrev pub unheaded : List Unclosed → List ℕ
unheaded [] = []
unheaded (c ∷ cs) = unheaded cs ++ (c.field ++ (c.annotations ++ c.body))

-- how many octets the header of n octets has
abbrev pub header_size : ℕ → ℕ
header_size n = suc (length (length_octets n))

-- ---- the headers that are missing, the innermost first: a container's, and its wrapper's where it has annotations; each is of all that is
-- there after its place

-- the place of a wrapper's header, by the ids of the annotations and where they begin; none where there are no annotations
abbrev pub wrapper_places : List ℕ → ℕ → List ℕ
wrapper_places [] place = []
wrapper_places (n ∷ ns) place = place ∷ []

-- the places of all open containers' headers, each container's own before its wrapper's
abbrev pub header_places : List Unclosed → List ℕ
header_places [] = []
header_places (c ∷ cs) =
    (length (unheaded cs) + (length c.field + length c.annotations)) ∷ (wrapper_places c.annotations (length (unheaded cs) + length c.field) ++ header_places cs)

-- how many octets are missing among n, of which some are missing after the first of the places
abbrev pub missing : ℕ → List ℕ → ℕ → ℕ
missing n [] m = m
missing n (p ∷ ps) m = missing n ps (m + header_size (n - p + m))

-- the closed size
abbrev pub closed_length : ℕ → List ℕ → ℕ
closed_length n places = n + missing n places 0

-- an open value with any octets after it is, once all its containers are closed, as long as the places say
abbrev pub ClosedSizeByPlaces : Type 0
ClosedSizeByPlaces = (cs : List Unclosed) (x : List ℕ) → closed_length (length (unheaded cs) + length x) (header_places cs) ≡ length (all_closed cs x)

-- ---- counts of headers

-- a header around another is of more octets, so those that have two octets or more are the outermost, those that have three or more the
-- outermost among them, and so on: counts of each say how long the header is that k others are around
abbrev pub counted_size : List ℕ → ℕ → ℕ
counted_size [] k = 1
counted_size (n ∷ ns) k = counted_size ns k + (if nat_lt k n then 1 else 0)

-- from so many octets on a header has two, three, four, five and six
abbrev pub thresholds : List ℕ
thresholds = 14 ∷ 128 ∷ 16384 ∷ 2097152 ∷ 268435456 ∷ []

-- the number of octets that each header is of, the innermost first, where the headers are as long as the counts say
abbrev pub contents : List ℕ → ℕ → List ℕ → ℕ → List ℕ
contents ns n [] m = []
contents ns n (p ∷ ps) m = (n - p + m) ∷ contents ns n ps (m + counted_size ns (length ps))

-- of these the innermost that is counted reaches a threshold, and the next one does not
abbrev pub IsSettledAt : ℕ → ℕ → List ℕ → Type 0
IsSettledAt count threshold [] = ⊤
IsSettledAt count threshold (x ∷ xs) =
    (suc (length xs) ≡ count → threshold ≤ x) × ((length xs ≡ count → x < threshold) × IsSettledAt count threshold xs)

-- so it is of each count and its threshold, as many of the one as of the other, and no count is above the number of headers
abbrev pub AreSettled : List ℕ → List ℕ → List ℕ → Type 0
AreSettled [] [] xs = ⊤
AreSettled (count ∷ counts) (threshold ∷ others) xs = (count ≤ length xs) × (IsSettledAt count threshold xs × AreSettled counts others xs)
AreSettled _ _ xs = ⊥

-- then the closed size is a sum: one octet for each header, and one more for each that is counted. So an item that lengthens no header
-- costs two comparisons a count, and each header is lengthened five times at most
abbrev pub ClosedSizeByCounts : Type 0
ClosedSizeByCounts =
    (cs : List Unclosed) (x counts : List ℕ)
    → AreSettled counts thresholds (contents counts (length (unheaded cs) + length x) (header_places cs) 0)
    → length (unheaded cs) + length x + (length (header_places cs) + sum counts) < 2 ^ 35
    → length (all_closed cs x) ≡ length (unheaded cs) + length x + (length (header_places cs) + sum counts)
