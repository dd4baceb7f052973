use Rattle.mapchain_engine.proofs.file_reading.kept_of.Goals as goal

pub returns-in-Err : goal.returns-in-Err
returns-in-Err g c = c.fault_of.ensures c.args.bytes.now c.in-Err.ensures
