-- `put_junction` writes one of two characters. Assumes nothing.
use Rattle.definitions.specs.declared.kinds.Junction.TheVariants.{And, Or}
use Rattle.text_writer.proofs.Putting.{of_junction}
use Rattle.text_writer.proofs.writer.put_junction.Goals as goal

pub returns-in-And : goal.returns-in-And
returns-in-And c = of_junction _ And c.in-And.is c.put_byte.ensures

pub returns-in-Or : goal.returns-in-Or
returns-in-Or c = of_junction _ Or c.in-Or.is c.put_byte-in-Or.ensures
