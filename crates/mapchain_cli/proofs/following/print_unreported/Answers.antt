use Rattle.mapchain_cli.proofs.following.print_unreported.Goals as goal

pub returns : goal.returns
returns g c = (_, _, c.print_text.ensures, c.print_if.ensures)
