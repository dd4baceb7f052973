-- How what a function answers relates to what a definition gives.
use Rattle.std.specs.Prelude.{◌≡◌, ◌≢◌, Result, Ok, Err}

-- the answer, as a clause sees it, is what the definition gives, or its fault is the definition's
abbrev pub Finds : {E X Y : Type 0} → (X → Y) → Result X E → Result Y E → Type 0
Finds view (Ok x) read = read ≡ Ok (view x)
Finds view (Err e) read = read ≡ Err e

-- the answer and the counts after it are what a reader gives, or its fault is the reader's; want of memory, which is this fault, leaves
-- open what it gives
abbrev pub GivesUnless : {C E X Y : Type 0} → E → (X → Y) → Result X E → C → Result (Y × C) E → Type 0
GivesUnless memory view (Ok x) after read = read ≡ Ok (view x, after)
GivesUnless memory view (Err e) after read = e ≢ memory → read ≡ Err e
