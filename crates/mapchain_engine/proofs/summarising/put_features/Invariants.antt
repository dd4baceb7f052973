use Rattle.topo_model.proofs.Stepped.{Stepped}
use Rattle.mapchain_engine.proofs.Counted.{put_next, put_one}
use Rattle.mapchain_engine.proofs.summarising.put_features.Given as goal

abbrev pub invariant-objects : goal.invariant-objects
invariant-objects l = Stepped put_one put_next l.features l.fn.objects l.rest l.object-index l.objects
