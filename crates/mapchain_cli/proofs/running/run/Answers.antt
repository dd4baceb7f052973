use Rattle.std.proofs.Common.{inl, inr, map, refl}
use Rattle.std.specs.String.{string_bytes}
use Rattle.command_words.proofs.Ranges.{asked_in_range}
use Rattle.mapchain_cli.proofs.running.run.Goals as goal

pub carry_out-requires : goal.carry_out-requires
carry_out-requires g c = asked_in_range (map string_bytes c.args.words.now) c.in-Ok.order c.in-Ok.ensures.exact

pub returns-in-Ok : goal.returns-in-Ok
returns-in-Ok g c = inl (c.in-Ok.order, c.in-Ok.ensures.exact, c.in-Ok.ensures.detail, c.carry_out.ensures)

pub returns-in-Err : goal.returns-in-Err
returns-in-Err g c = inr (c.in-Err.fault, (c.in-Err.ensures.exact, c.in-Err.ensures.fault), c.print_words_fault.ensures, refl)
