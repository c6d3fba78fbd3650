-- `put_repeat` writes one of two words. Assumes nothing.
use Rattle.definitions.specs.declared.kinds.Repeat.TheVariants.{Star, Plus}
use Rattle.text_writer.proofs.Putting.{of_repeat}
use Rattle.text_writer.proofs.writer.put_repeat.Goals as goal

pub returns-in-Star : goal.returns-in-Star
returns-in-Star c = of_repeat _ Star c.in-Star.is c.put_word.ensures

pub returns-in-Plus : goal.returns-in-Plus
returns-in-Plus c = of_repeat _ Plus c.in-Plus.is c.put_word-in-Plus.ensures
