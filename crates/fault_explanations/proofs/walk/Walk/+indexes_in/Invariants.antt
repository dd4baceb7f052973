use Rattle.fault_explanations.proofs.walk.Walk.+indexes_in.Given as goal

abbrev pub decreases-indexes_in : goal.decreases-indexes_in
decreases-indexes_in l = l.arrays
