use Rattle.std.proofs.Common.{List, ap, inl, inr, map, refl, subst, ◌∙◌, ℕ}
use Rattle.std.specs.String.{string_bytes}
use Rattle.command_words.specs.Joined.{joined}
use Rattle.command_words.specs.declared.words_fault.WordsFault.TheVariants.{Memory}
use Rattle.mapchain_cli.specs.Files.{used}
use Rattle.mapchain_cli.specs.Performing.{Streams}
use Rattle.mapchain_cli.specs.Runs.{RunsOn}
use Rattle.mapchain_cli.proofs.Kept.{files_say}
use Rattle.mapchain_cli.proofs.Statuses.{says}
use Rattle.mapchain_cli.proofs.running.command.Goals as goal

pub returns-in-Ok : goal.returns-in-Ok
returns-in-Ok g c =
    let files = used (g.F.Files.state c.args.files.now) (g.F.Files.state c.run.new.files) in
    let old : Streams = record { out = c.args.out.now; err = c.args.err.now } in
    let new : Streams = record { out = c.run.new.out; err = c.run.new.err } in
    let words = joined (map string_bytes c.args.words.items) in
    let asked = ap (map string_bytes) c.as_slice-in-Ok.ensures.value ∙ c.in-Ok.ensures.joined ∙ ap (λ ws. joined (map string_bytes ws)) c.as_slice.ensures.value in
    let ran : RunsOn files words old new c.run.result = subst (λ (ws : List (List ℕ)). RunsOn files ws old new c.run.result) asked c.run.ensures in
    let said = says files words old new c.run.result ran in
    let filed = files_say files words old new c.run.result ran in
    record {
      ran = ran;
      status = said.small;
      done = said.done;
      flushed = said.flushed;
      elsewhere = said.elsewhere;
      refused = said.refused;
      lost = filed.lost;
      kept = filed.kept;
      settled = filed.settled;
    }

pub returns : goal.returns
returns g c =
    let files = used (g.F.Files.state c.args.files.now) (g.F.Files.state c.args.files.now) in
    let old : Streams = record { out = c.args.out.now; err = c.args.err.now } in
    let new : Streams = record { out = c.print_words_fault.new.out; err = c.print_words_fault.new.err } in
    let words = joined (map string_bytes c.args.words.items) in
    let ran : RunsOn files words old new c.print_words_fault.result = inr (Memory, (inl refl, tt), c.print_words_fault.ensures, refl) in
    let said = says files words old new c.print_words_fault.result ran in
    let filed = files_say files words old new c.print_words_fault.result ran in
    record {
      ran = ran;
      status = said.small;
      done = said.done;
      flushed = said.flushed;
      elsewhere = said.elsewhere;
      refused = said.refused;
      lost = filed.lost;
      kept = filed.kept;
      settled = filed.settled;
    }
