use Rattle.std.proofs.Common.{◌≡◌, codes, option_map, rules}
use Rattle.clap.specs.Walk.{first_of}
use Rattle.command_words.specs.Asked.{Detail, entries_of, is_set}
use Rattle.command_words.proofs.request.read_by.Goals as goal

pub returns-in-Some-2-clause-detail : goal.returns-in-Some-2-clause-detail
returns-in-Some-2-clause-detail c =
    let rows = entries_of c.in-Some.arguments.now in
    let said : Detail = record { explains = c.is_set.result; report = option_map (λ r. r.now) c.given-in-Some-2.result; quiet = c.is_set-in-Some-2.result } in
    let asked : Detail = record { explains = is_set (codes "explain") rows; report = first_of (codes "report") rows; quiet = is_set (codes "quiet") rows } in
    let fact : said ≡ asked = λ i. record { explains = c.is_set.ensures i; report = c.given-in-Some-2.ensures i; quiet = c.is_set-in-Some-2.ensures i } in
    search (rules, fact)
