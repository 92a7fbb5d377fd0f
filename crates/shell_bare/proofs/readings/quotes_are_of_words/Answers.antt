use Rattle.shell_bare.proofs.Quotes.{part_left, joined_again}
use Rattle.shell_bare.proofs.readings.quotes_are_of_words.Goals as goal

pub returns : goal.returns
returns c = record { part = λ text rest out parts one h. part_left one out h; none_left = λ text out h. joined_again h }
