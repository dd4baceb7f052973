use Rattle.json_value.specs.Reading.{text_at}
use Rattle.json_reading.proofs.checking.text_at.Goals as goal

pub returns-in-Some : goal.returns-in-Some
returns-in-Some c = unfold text_at in rw (← c.in-Some.ensures) c.document.ensures

pub returns-in-None : goal.returns-in-None
returns-in-None c = unfold text_at in rw (← c.in-None.ensures) c.document-in-None.ensures
