use Rattle.std.proofs.Common.{◌≡◌, take}
use Rattle.mapchain_cli.specs.Asking.{texts_of}
use Rattle.mapchain_cli.specs.Files.{AreOpened, opened_times}
use Rattle.mapchain_cli.proofs.running.open_layers.Given as goal

abbrev pub invariant-layers : goal.invariant-layers
invariant-layers g l = record {
  opened : AreOpened (g.F.Files.state l.fn.files).contents (texts_of (take l.layer l.layers)) l.sources.items;
  times : g.F.Files.state l.files ≡ opened_times l.layer (g.F.Files.state l.fn.files);
}
