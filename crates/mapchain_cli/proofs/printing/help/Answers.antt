use Rattle.mapchain_cli.proofs.Cut.{help_cut}
use Rattle.mapchain_cli.proofs.printing.help.Goals as goal

pub returns-in-Err : goal.returns-in-Err
returns-in-Err g c =
    let text = c.as_bytes.result.now in
    help_cut c.args.out.now c.flush_after.new.sink c.args.err.now c.print_fault.new.err text c.in-Err.fault c.from.result c.print_fault.result c.from.ensures
    (c.in-Err.ensures c.args.out.now 0 text c.put-written.ensures.wrote) c.print_fault.ensures.reported c.print_fault.ensures.status
