-- What contracts see of the two ends: a source's and a sink's bytes, counts and failures, and what a push does.
use Rattle.std.specs.Prelude.{◌≡◌, ◌⊎◌, ℕ, ◌+◌, ◌-◌, ◌^◌, ◌<◌, ◌≤◌, min, Bool, true, false, List, length, take, Option, Result, MatchResult}
use Rattle.std.specs.Io.KnownBytes.{Appends, Consumes}

-- a count in a `u64` that stays at the largest one
abbrev pub saturated : ℕ → ℕ
saturated n = min n (2 ^ 64 - 1)

-- a call with this result makes the failures one more where it failed, and leaves them else
abbrev pub CountsFailure : {T E : Type 0} → ℕ → Result T E → ℕ → Type 0
CountsFailure old result new = MatchResult result (λ _. new ≡ old) (λ _. new ≡ saturated (old + 1))

-- a read with this result makes the reads that gave bytes one more where it gave some, and leaves them else
abbrev pub CountsGiving : {E : Type 0} → ℕ → Result ℕ E → ℕ → Type 0
CountsGiving old result new = MatchResult result (λ n. (0 < n → new ≡ saturated (old + 1)) × (n ≡ 0 → new ≡ old)) (λ _. new ≡ old)

-- a read with this result makes the reads that gave none one more where it gave none and didn't fail, and leaves them else
abbrev pub CountsEmpty : {E : Type 0} → ℕ → Result ℕ E → ℕ → Type 0
CountsEmpty old result new = MatchResult result (λ n. (n ≡ 0 → new ≡ saturated (old + 1)) × (0 < n → new ≡ old)) (λ _. new ≡ old)

-- who reads to the end with this result has one read more that gave none, the one at the end, and who doesn't get there has no more
abbrev pub CountsEnd : {T E : Type 0} → ℕ → Result T E → ℕ → Type 0
CountsEnd old result new = MatchResult result (λ _. new ≡ saturated (old + 1)) (λ _. new ≡ old)

-- what a write takes is held back, and a write that takes nothing leaves what was passed on
abbrev pub HoldsBack : {E : Type 0} → Bool → Result ℕ E → Bool → Type 0
HoldsBack old result new = MatchResult result (λ n. (0 < n → new ≡ false) × (n ≡ 0 → new ≡ old)) (λ _. new ≡ old)

-- a flush passes on all that was taken, and one that fails leaves what was passed on
abbrev pub PassesOn : {T E : Type 0} → Bool → Result T E → Bool → Type 0
PassesOn old result new = MatchResult result (λ _. new ≡ true) (λ _. new ≡ old)

-- a call makes a device late that had failed so many times before, if it had, and leaves it else
abbrev pub MakesLate : Bool → ℕ → Bool → Type 0
MakesLate old failures new = (failures ≡ 0 → new ≡ old) × (0 < failures → new ≡ true)

-- what contracts see of a source or a feed: the bytes that it has left, where they are known, and how many of its reads failed, how
-- many gave bytes, and how many gave none without a failure
pub record Fed : Type 0 where
  pub left : Option (List ℕ)
  pub failures : ℕ
  pub giving_reads : ℕ
  pub empty_reads : ℕ

-- from the old state of a source to the new one, its device gave some bytes, no more than this many, in no more reads than bytes
abbrev pub GaveAtMost : ℕ → Fed → Fed → Type 0
GaveAtMost most old new = (given : List ℕ) × Consumes old.left new.left given × (length given ≤ most) × (new.giving_reads ≤ old.giving_reads + length given)

-- how many bytes are asked of a device at a time
abbrev pub block_size : ℕ
block_size = 2 ^ 16

-- it gave more than the limit, by no more than what is asked for at a time, and no more of its reads gave bytes than the limit and one
abbrev pub GavePast : ℕ → Fed → Fed → Type 0
GavePast limit old new = (given : List ℕ) × Consumes old.left new.left given × (limit < length given) × (length given ≤ limit + block_size)
    × (new.giving_reads ≤ old.giving_reads + limit + 1)

-- it was known to have more left than the limit, and wasn't read, or it gave more
abbrev pub IsPast : ℕ → Fed → Fed → Type 0
IsPast limit old new = (new ≡ old) ⊎ GavePast limit old new

-- what contracts see of the calls of a device that takes bytes: how many failed, whether all that it took is passed on, and whether
-- it was called again after a failure
pub record Called : Type 0 where
  pub failures : ℕ
  pub flushed : Bool
  pub late : Bool

-- no calls yet
abbrev pub not_called : Called
not_called = record { failures = 0; flushed = false; late = false }

-- what contracts see of a drain over a writer: the bytes that the writer took, where they are known, and its calls
pub record Written : Type 0 where
  pub taken : Option (List ℕ)
  pub calls : Called

-- what contracts see of a drain in memory: the bytes that it holds, and its calls
pub record Held : Type 0 where
  pub bytes : List ℕ
  pub calls : Called

-- what contracts see of a sink: the bytes that its device took, where they are known, how many of them the sink sent,
-- the device's failures, and whether all that it took is passed on
pub record Drained : Type 0 where
  pub taken : Option (List ℕ)
  pub sent : ℕ
  pub failures : ℕ
  pub flushed : Bool

-- from the old state of a sink to the new one, its device took the first n of these bytes and nothing else
pub record Takes (old new : Drained) (bytes : List ℕ) (n : ℕ) : Type 0 where
  pub within : n ≤ length bytes
  pub taken : Appends old.taken new.taken (take n bytes)
  pub sent : new.sent ≡ saturated (old.sent + n)
