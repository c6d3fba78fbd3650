-- `put_pair` writes one of five signs. Assumes nothing.
use Rattle.definitions.specs.declared.kinds.Pair.TheVariants.{Then, Overlap, Either, Within, Both}
use Rattle.text_writer.proofs.Putting.{of_pair}
use Rattle.text_writer.proofs.writer.put_pair.Goals as goal

pub returns-in-Then : goal.returns-in-Then
returns-in-Then c = of_pair _ Then c.in-Then.is c.put_byte.ensures

pub returns-in-Overlap : goal.returns-in-Overlap
returns-in-Overlap c = of_pair _ Overlap c.in-Overlap.is c.put_byte-in-Overlap.ensures

pub returns-in-Either : goal.returns-in-Either
returns-in-Either c = of_pair _ Either c.in-Either.is c.put_byte-in-Either.ensures

pub returns-in-Within : goal.returns-in-Within
returns-in-Within c = of_pair _ Within c.in-Within.is c.put_byte-in-Within.ensures

pub returns-in-Both : goal.returns-in-Both
returns-in-Both c = of_pair _ Both c.in-Both.is c.put_word.ensures
