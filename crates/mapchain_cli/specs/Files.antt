-- The files of a run: their bytes, the sources that they are opened as, the outputs that take their place, and how often that was done.
use Rattle.std.specs.Prelude.{◌≡◌, ◌≢◌, ℕ, zero, suc, ◌+◌, ◌≤◌, Bool, true, false, List, [], ◌∷◌, Option, Some, None, IfSome}
use Rattle.byte_ends.specs.Ends.{Drained, Fed, saturated}
use Rattle.inputs.specs.Sources.{Sources}
use Rattle.mapchain_cli.specs.Notes.{Ended, Noted, with_ended, with_fresh, with_source, with_sources}
use Rattle.mapchain_cli.specs.declared.counts.Counts.{Counts}
use Rattle.mapchain_cli.specs.declared.counts.OutputCounts.{OutputCounts}

-- the bytes of the file of each path, where they are known and it can be opened
abbrev pub Contents : Type 0
Contents = List ℕ → Option (List ℕ)

-- what a run knows of files: their bytes, and what was done with them
pub record FileState : Type 0 where
  pub contents : Contents
  pub counts : Counts
  -- the path of the output that was begun last, unless it was kept or taken away
  pub pending : Option (List ℕ)
  -- what its last outputs and sources were
  pub noted : Noted

-- ---- files that are read

-- the source has left the bytes of the file of this path, where they are known, and has not been read
pub record IsOpened (contents : Contents) (path : List ℕ) (source : Fed) : Type 0 where
  pub bytes : IfSome (contents path) (λ bytes. source.left ≡ Some bytes)
  pub sound : source.failures ≡ 0
  pub unread : (source.giving_reads ≡ 0) × (source.empty_reads ≡ 0)

-- the names of layers, each with the path of its file
abbrev pub Layers : Type 0
Layers = List (List ℕ × List ℕ)

-- each source has the name of its layer, and the bytes of the file of that layer's path
abbrev pub AreOpened : Contents → Layers → Sources → Type 0
AreOpened contents [] [] = Unit {0}
AreOpened contents (layer ∷ layers) (source ∷ sources) = (source.0 ≡ layer.0) × IsOpened contents layer.1 source.1 × AreOpened contents layers sources
AreOpened contents layers sources = ⊥

-- ---- how often files were opened

-- one more try, which opened a file or didn't
abbrev pub with_open : Bool → Counts → Counts
with_open true c = record c { opened = saturated (c.opened + 1) }
with_open false c = record c { refused = saturated (c.refused + 1) }

abbrev pub one_more : Bool → FileState → FileState
one_more is_open s = record s { counts = with_open is_open s.counts }

-- the files before a run and after it
pub record FileUse : Type 0 where
  pub before : FileState
  pub after : FileState

abbrev pub used : FileState → FileState → FileUse
used before after = record { before = before; after = after }

-- the files where so many were opened
abbrev pub opened_times : ℕ → FileState → FileState
opened_times zero s = s
opened_times (suc n) s = one_more true (opened_times n s)

-- so many files were opened, none was refused, and nothing else was done
abbrev pub Opened : ℕ → FileUse → Type 0
Opened n files = files.after ≡ opened_times n files.before

-- so many files were opened, then one was refused, and none was tried after it
abbrev pub RefusedAfter : ℕ → FileUse → Type 0
RefusedAfter n files = files.after ≡ one_more false (opened_times n files.before)

-- so many files or fewer were opened, and none was refused
abbrev pub OpensPrefix : ℕ → FileUse → Type 0
OpensPrefix most files = (n : ℕ) × (n ≤ most) × Opened n files

-- ---- what sources were when they had been read

-- the run is done with the source of a topology
abbrev pub done_with : Fed → FileState → FileState
done_with source s = record s { noted = with_source source s.noted }

-- the run is done with the sources of layers
abbrev pub done_with_all : Sources → FileState → FileState
done_with_all sources s = record s { noted = with_sources sources s.noted }

-- one file was opened, none was refused, its source was this in the end, and nothing else was done
abbrev pub ReadsOne : Fed → FileUse → Type 0
ReadsOne source files = files.after ≡ done_with source (opened_times 1 files.before)

-- so many files were opened, none was refused, their sources were these in the end, and nothing else was done
abbrev pub ReadsAll : ℕ → Sources → FileUse → Type 0
ReadsAll n sources files = files.after ≡ done_with_all sources (opened_times n files.before)

-- ---- outputs that take the place of a file

-- nothing was written to the output, and no call of it has failed
pub record IsFresh (output : Drained) : Type 0 where
  pub sent : output.sent ≡ 0
  pub sound : output.failures ≡ 0
  pub empty : IfSome output.taken (λ bytes. bytes ≡ [])

-- nothing became of any
abbrev pub no_outputs : OutputCounts
no_outputs = record { begun = 0; unbegun = 0; kept = 0; unkept = 0; discarded = 0 }

-- one more try to begin an output
abbrev pub with_begin : Bool → OutputCounts → OutputCounts
with_begin true c = record c { begun = saturated (c.begun + 1) }
with_begin false c = record c { unbegun = saturated (c.unbegun + 1) }

-- one more try to put an output in the place of a file
abbrev pub with_keep : Bool → OutputCounts → OutputCounts
with_keep true c = record c { kept = saturated (c.kept + 1) }
with_keep false c = record c { unkept = saturated (c.unkept + 1) }

-- one more output that wasn't to be kept
abbrev pub with_discard : OutputCounts → OutputCounts
with_discard c = record c { discarded = saturated (c.discarded + 1) }

abbrev pub in_outputs : (OutputCounts → OutputCounts) → Counts → Counts
in_outputs more c = record c { outputs = more c.outputs }

-- an output that is to take the place of the file of this path is begun, and this is what it is, or it was tried
abbrev pub begun : Option Drained → List ℕ → FileState → FileState
begun (Some fresh) path s = record s { counts = in_outputs (with_begin true) s.counts; pending = Some path; noted = with_fresh fresh s.noted }
begun None path s = record s { counts = in_outputs (with_begin false) s.counts }

-- an output that wasn't to be kept was taken away, when its device was this
abbrev pub discarded : Ended → FileState → FileState
discarded ended s = record s { counts = in_outputs with_discard s.counts; pending = None; noted = with_ended ended s.noted }

-- an output whose device was this couldn't take the place of a file, and was taken away
abbrev pub not_kept : Ended → FileState → FileState
not_kept ended s = record s { counts = in_outputs (with_keep false) s.counts; pending = None; noted = with_ended ended s.noted }

-- the file of this path, for which an output was begun last, holds all that the output took, where that is known, whose device was this; no
-- other file changes, and that is counted
pub record Keeps (path : List ℕ) (ended : Ended) (old new : FileState) : Type 0 where
  pub begun : old.pending ≡ Some path
  pub holds : IfSome (new.contents path) (λ bytes. ended.taken ≡ Some bytes)
  pub others : (other : List ℕ) → other ≢ path → new.contents other ≡ old.contents other
  pub counted : new.counts ≡ in_outputs (with_keep true) old.counts
  pub settled : new.pending ≡ None
  pub noted : new.noted ≡ with_ended ended old.noted

-- every file holds what it held, but perhaps that of this path, if there is one
abbrev pub HoldsBut : Option (List ℕ) → FileState → FileState → Type 0
HoldsBut None old new = new.contents ≡ old.contents
HoldsBut (Some path) old new = (other : List ℕ) → other ≢ path → new.contents other ≡ old.contents other
