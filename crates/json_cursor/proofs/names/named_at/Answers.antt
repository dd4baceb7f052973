use Rattle.json_cursor.proofs.MemberParts as part
use Rattle.json_cursor.proofs.names.named_at.Goals as goal

pub returns-clause-member : goal.returns-clause-member
returns-clause-member c = λ d.
    rw c.skip-2.ensures
    (part.is_named c.args.bytes.now c.in-Some.inside.now c.in-Some.ensures c.args.word.now c.in-Some-quoted_at.name_end.now c.in-Some-quoted_at.ensures
    c.in-Some-after_byte.following.now (rw c.skip.ensures at c.in-Some-after_byte.ensures) d)
