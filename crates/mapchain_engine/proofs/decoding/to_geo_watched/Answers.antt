use Rattle.std.proofs.lemmas.Result.{err_from_is_err_and}
use Rattle.mapchain_engine.proofs.FilesDecided.{found_fails}
use Rattle.mapchain_engine.proofs.ObjectsFound.{fails_decoding}
use Rattle.mapchain_engine.proofs.decoding.to_geo_watched.Goals as goal

-- ---- the source isn't read to its end

pub returns-in_err-bytes-clause-decided : goal.returns-in_err-bytes-clause-decided
returns-in_err-bytes-clause-decided g c bytes outcome left comes =
    let p = err_from_is_err_and c.from_residual.result c.from_residual.ensures.1 in
    rw (p.1, p.2) (found_fails c.args.sink.now c.args.sink.now c.args.most c.args.name.now c.args.source.now c.bytes_of.new.source bytes left outcome comes _
    (fails_decoding c.args.name.now c.args.source.now c.bytes_of.new.source c.args.most _ c.in_err-bytes.ensures))

-- ---- it is, and what its bytes spell is decoded

pub returns-then-is_err-clause-decided : goal.returns-then-is_err-clause-decided
returns-then-is_err-clause-decided g c bytes outcome left comes =
    c.decode-decoded.ensures.decided c.args.source.now c.bytes_of.new.source (rw c.leak.ensures.value c.in_ok-bytes.ensures) bytes outcome left comes

pub returns-else-is_err-clause-decided : goal.returns-else-is_err-clause-decided
returns-else-is_err-clause-decided g c bytes outcome left comes =
    c.decode-decoded.ensures.decided c.args.source.now c.bytes_of.new.source (rw c.leak.ensures.value c.in_ok-bytes.ensures) bytes outcome left comes
