-- What a run promises: its exit status, and what standard output, standard error and files took.
use Rattle.std.specs.Prelude.{◌≡◌, ◌⊎◌, ℕ, true, List, [], IfSome, None, Some}
use Rattle.byte_ends.specs.Writes.{WritesAll, WritesPrefix}
use Rattle.command_words.specs.Asked.{detail, detail_of, order_of, ordered}
use Rattle.command_words.specs.Faults.{IsFaultOf, words_fault_text}
use Rattle.command_words.specs.Joined.{joined}
use Rattle.command_words.specs.declared.request.Order.{Order}
use Rattle.command_words.specs.declared.words_fault.WordsFault.{WordsFault}
use Rattle.command_words.specs.declared.words_fault.WordsFault.TheVariants as words
use Rattle.reports.specs.FaultLines.{fault_text}
use Rattle.reports.specs.Statuses.{failed, words_refused}
use Rattle.reports.specs.Printing.{Prints}
use Rattle.inputs.specs.declared.fault.BuildFault.TheVariants.{Write}
use Rattle.mapchain_cli.specs.Files.{FileUse, Opened}
use Rattle.mapchain_cli.specs.Following.{IsCarriedOut}
use Rattle.mapchain_cli.specs.Outputs.{asked_output}
use Rattle.mapchain_cli.specs.Performing.{Streams}

-- ---- words that ask for nothing that is done

-- nothing is printed for want of memory
abbrev pub LacksMemory : Streams → Streams → ℕ → Type 0
LacksMemory old new status = (new.out ≡ old.out) × Prints old.err new.err [] × (status ≡ failed)

-- a text of help was written, or the device failed when it had taken a prefix of it, which is reported
abbrev pub IsHelped : Streams → Streams → ℕ → Type 0
IsHelped old new status = (text : List ℕ) × (sent : ℕ) ×
    ((WritesAll old.out new.out 0 text sent × (new.out.flushed ≡ true) × Prints old.err new.err [] × (status ≡ 0))
    ⊎ (WritesPrefix old.out new.out 0 text sent × Prints old.err new.err (fault_text (Write sent)) × (status ≡ failed)))

-- a text was printed, which is the line of the fault where that is not `clap`'s
abbrev pub IsRefusedFor : WordsFault → Streams → Streams → ℕ → Type 0
IsRefusedFor fault old new status = (text : List ℕ) × IfSome (words_fault_text fault) (λ line. text ≡ line)
    × (new.out ≡ old.out) × Prints old.err new.err text × (status ≡ words_refused)

-- help was asked for, or the words are refused, unless memory was wanting
abbrev pub EndsAtWords : WordsFault → Streams → Streams → ℕ → Type 0
EndsAtWords (words.Help error) old new status = IsHelped old new status ⊎ LacksMemory old new status
EndsAtWords words.Memory old new status = LacksMemory old new status
EndsAtWords fault old new status = IsRefusedFor fault old new status ⊎ LacksMemory old new status

-- ---- a whole run

-- the words ask for no request, or memory was wanting; and what is reported is the fault that they have
abbrev pub IsUnasked : List (List ℕ) → WordsFault → Type 0
IsUnasked given fault = ((fault ≡ words.Memory) ⊎ (order_of given ≡ None)) × IsFaultOf given fault

-- the order that the words ask for is carried out, or they ask for none
abbrev pub RunsOn : FileUse → List (List ℕ) → Streams → Streams → ℕ → Type 0
RunsOn files given old new status =
    ((order : Order) × (order_of given ≡ Some (ordered order)) × (detail_of given ≡ Some (detail order))
    × IsCarriedOut files (asked_output order) (detail order) order.request old new status)
    ⊎ ((fault : WordsFault) × IsUnasked given fault × EndsAtWords fault old new status × Opened 0 files)

-- the run of the words as they are given: an option whose value may be any text and that value are joined first
abbrev pub Runs : FileUse → List (List ℕ) → Streams → Streams → ℕ → Type 0
Runs files given old new status = RunsOn files (joined given) old new status
