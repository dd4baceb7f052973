-- Corners that wait on places.
use Rattle.std.specs.Prelude.{◌≡◌, ℕ, ◌+◌, ◌<◌, ◌≤◌, List, length, slice_index, slice_index_or}
use Rattle.guarded_reduction.specs.declared.queue.waiting_lists.Wait.{Wait}

abbrev pub no_wait : Wait
no_wait = record { corner = 0; next = 0 }

unfoldable pub wait_at : List Wait → ℕ → Wait
wait_at ws i = slice_index_or ws i no_wait

-- for each place where its waiting corners begin, and all that wait
pub record Waiting : Type 0 where
  pub firsts : List ℕ
  pub waits : List Wait

-- it waits among those that begin with the wait of this number, counted from one
pub data WaitsFrom (ws : List Wait) : ℕ → ℕ → Type 0 where
  here : {n v : ℕ} (i : ℕ) → n ≡ i + 1 → i < length ws → (wait_at ws i).corner ≡ v → WaitsFrom ws n v
  later : {n v : ℕ} (i : ℕ) → n ≡ i + 1 → i < length ws → WaitsFrom ws (wait_at ws i).next v → WaitsFrom ws n v

-- the corner waits on the place
abbrev pub WaitsOn : Waiting → ℕ → ℕ → Type 0
WaitsOn w h v = WaitsFrom w.waits (slice_index w.firsts h) v

-- each wait leads to earlier ones
pub record IsFalling (w : Waiting) : Type 0 where
  pub first : (h : ℕ) → slice_index w.firsts h ≤ length w.waits
  pub next : (i : ℕ) → i < length w.waits → (wait_at w.waits i).next ≤ i

-- what waited still waits
pub record KeepsWaits (old new : Waiting) : Type 0 where
  pub same : length new.firsts ≡ length old.firsts
  pub has : (h v : ℕ) → WaitsOn old h v → WaitsOn new h v
