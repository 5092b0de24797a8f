-- What a reader in code does otherwise than the definitions: it starts after blanks, it counts no pieces, and it takes plain bytes
-- together.
use Rattle.std.specs.Prelude.{◌≡◌, ℕ, suc, ◌+◌, ◌≤◌, Bool, true, false, not, ◌&&◌, ◌||◌, ◌==◌, nat_lt, if◌then◌else◌, List, [], ◌∷◌, ◌++◌, length, Option, Result, Ok, Err}
use Rattle.ion_meter.specs.declared.fault.Reason.{Reason}
use Rattle.ion_meter.specs.declared.fault.Reason.TheVariants.{ScalarLimit}
use Rattle.ion_meter.specs.declared.profile.Rules.{Rules}
use Rattle.ion_meter.specs.Sources.{Cursor}
use Rattle.ion_value.specs.Digits.{all_are}
use Rattle.ion_value.specs.Parts.{refuse, ◌>>=◌, ◌>>◌}
use Rattle.ion_text_in.specs.Limit.{passes}
use Rattle.ion_text_in.specs.Blanks.{blanks}
use Rattle.ion_text_in.specs.Quoted.{Quote, Piece, char, close, illegal, cut, is_raw, piece_at, with_piece, pieces_for, segment_at, next_segment, with_segments, segments_for}
use Rattle.ion_text_in.specs.Lob.{group_of, group_bytes, after_to, last_group, groups_for}
use Rattle.ion_text_in.specs.Positions.{State}
use Rattle.ion_text_in.specs.Reading.{step}
use Rattle.ion_text_in.specs.Meaning.{at}

-- ---- blanks

-- a state with its cursor elsewhere
abbrev pub moved_to : Cursor → State → State
moved_to c s = record { kinds = s.kinds; top = s.top; wants = s.wants; cursor = c }

-- a step from after blanks is the step from before them
abbrev pub BlanksChangeNoStep : Type 0
BlanksChangeNoStep = (limits : Rules) (s : State) (c : Cursor) → blanks s.cursor ≡ Ok c → step limits (moved_to c s) ≡ step limits s

-- ---- texts and groups, where no number says how many there are at most

-- the bytes that a text or a blob spells, and what stands after it
abbrev pub Spelled : Type 0
Spelled = Result (List ℕ × Cursor) Reason

-- the pieces from a cursor inside quotes to after the closing ones, where so many bytes came before
abbrev pub pieces : Quote → Option ℕ → ℕ → Cursor → Spelled
pieces q limit count c = pieces_for (suc (length c.rest)) q limit count c

-- the segments from after opening quotes on, where so many bytes came before
abbrev pub segments : Quote → Option ℕ → ℕ → Cursor → Spelled
segments q limit count c = segments_for (suc (length c.rest)) q limit count c

-- the groups of a blob from a cursor on, where so many bytes came before, and the group before was padded or not
abbrev pub groups : Option ℕ → ℕ → Bool → Cursor → Spelled
groups limit count padded c = groups_for (suc (length c.rest)) limit count padded c

-- one to three bytes close a text
abbrev pub IsQuote : Quote → Type 0
IsQuote q = (1 ≤ length q.closer) × (length q.closer ≤ 3)

-- a piece takes one byte or more, of those that there are, and twelve at most
pub record Takes (rest : List ℕ) (taken : ℕ) : Type 0 where
  pub some : 1 ≤ taken
  pub there : taken ≤ length rest
  pub few : taken ≤ 12

-- so it is of a character and of closing quotes
abbrev pub PieceTakes : List ℕ → Piece → Type 0
PieceTakes rest (char bytes taken) = Takes rest taken
PieceTakes rest (close taken) = Takes rest taken
PieceTakes rest illegal = Unit {0}
PieceTakes rest cut = Unit {0}

-- so it is of what stands anywhere inside quotes of one to three bytes
abbrev pub EachPieceTakes : Type 0
EachPieceTakes = (q : Quote) (rest : List ℕ) → IsQuote q → PieceTakes rest (piece_at q rest)

-- one piece after another
abbrev pub PiecesInTurn : Type 0
PiecesInTurn =
    (q : Quote) (limit : Option ℕ) (count : ℕ) (c : Cursor) → IsQuote q
    → pieces q limit count c ≡ with_piece (λ n d. pieces q limit n d) q limit count c (piece_at q c.rest)

-- one segment after another
abbrev pub SegmentsInTurn : Type 0
SegmentsInTurn =
    (q : Quote) (limit : Option ℕ) (count : ℕ) (c : Cursor) → IsQuote q
    → segments q limit count c
    ≡ (segment_at q limit count c >>= (λ s. with_segments (λ d. segments q limit (count + length s.0) d) s (next_segment q s.1)))

-- a group, and then the others as they are given
abbrev pub with_groups : (ℕ → Bool → Cursor → Spelled) → Option ℕ → ℕ → Bool → Cursor → Spelled
with_groups later limit count padded c =
    let g = group_of 4 c.rest in
    if nat_lt (length g.0) 4 then last_group g.0 (after_to c g.1)
    else (do
      bytes ← group_bytes padded g.0
      refuse (passes limit (count + length bytes)) ScalarLimit
      others ← later (count + length bytes) (nat_lt (length bytes) 3) (after_to c g.1)
      Ok (bytes ++ others.0, others.1))

-- one group after another
abbrev pub GroupsInTurn : Type 0
GroupsInTurn =
    (limit : Option ℕ) (count : ℕ) (padded : Bool) (c : Cursor)
    → groups limit count padded c ≡ with_groups (λ n b d. groups limit n b d) limit count padded c

-- ---- plain bytes

-- a byte that the closing quotes may begin with
abbrev pub may_close : List ℕ → ℕ → Bool
may_close [] b = true
may_close (c ∷ closer) b = c == b

-- a byte that stands for itself, whatever follows it: LF does in a long text
abbrev pub is_plain_byte : Quote → ℕ → Bool
is_plain_byte q b = not (may_close q.closer b) && not (b == 92) && (is_raw q b || (q.is_long && b == 10))

-- bytes before what is spelled further on
abbrev pub with_front : List ℕ → Spelled → Spelled
with_front xs o = o >>= (λ others. Ok (xs ++ others.0, others.1))

-- plain bytes in a text spell themselves, unless the limit is passed among them
pub record PlainBytes (q : Quote) (limit : Option ℕ) (count place : ℕ) (xs rest : List ℕ) : Type 0 where
  pub within : passes limit (count + length xs) ≡ false
      → pieces q limit count (at place (xs ++ rest)) ≡ with_front xs (pieces q limit (count + length xs) (at (place + length xs) rest))
  pub over : passes limit count ≡ false → passes limit (count + length xs) ≡ true → pieces q limit count (at place (xs ++ rest)) ≡ Err ScalarLimit

-- so it is of all plain bytes, inside quotes of one to three bytes
abbrev pub PlainBytesAreSpelled : Type 0
PlainBytesAreSpelled =
    (q : Quote) (limit : Option ℕ) (count place : ℕ) (xs rest : List ℕ) → IsQuote q → all_are (is_plain_byte q) xs ≡ true
    → PlainBytes q limit count place xs rest
