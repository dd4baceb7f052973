use Rattle.std.specs.Str.{is_utf8}
use Rattle.json_value.specs.Reading.{value_at}
use Rattle.json_cursor.proofs.Lists as list
use Rattle.json_cursor.proofs.passing.after_others.Goals as goal

pub returns-in-Close : goal.returns-in-Close
returns-in-Close c = λ first bytes found.
    (_, list.ends (value_at is_utf8 c.args.depth_left) c.args.turns bytes c.requires first _ found _ (rw c.in-Close.is at c.mark_at-mark.ensures))

pub returns-in-Comma : goal.returns-in-Comma
returns-in-Comma c = λ first bytes found.
    list.others_pass (value_at is_utf8 c.args.depth_left) c.args.turns bytes c.requires first _ found _ (rw c.in-Comma.is at c.mark_at-mark.ensures) c.after_elements.result c.after_elements.ensures

pub returns-in-Neither : goal.returns-in-Neither
returns-in-Neither c = λ first bytes found.
    list.breaks (value_at is_utf8 c.args.depth_left) c.args.turns bytes c.requires first _ found ((rw c.in-Neither.is at c.mark_at-mark.ensures) _ first)
