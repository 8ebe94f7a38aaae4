use Rattle.hour_words.proofs.NamedHours.{named}
use Rattle.hour_words.proofs.reading.read_hour.Goals as goal

pub returns-clause-hour : goal.returns-clause-hour
returns-clause-hour c = named c.args.word.now c.parse.result c.parse.ensures.found c.parse.ensures.exact
