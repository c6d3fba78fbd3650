-- `put_counts` writes both counts and what closes them. Assumes nothing.
use Rattle.text_writer.proofs.Putting.{low_room, dots_room, high_room, close_room, counts_wrote}
use Rattle.text_writer.proofs.writer.put_counts.Goals as goal

pub put_number-low-requires : goal.put_number-low-requires
put_number-low-requires c = low_room _ _ c.requires.0 _ c.args.out.now c.requires.1

pub put_word-dots-requires : goal.put_word-dots-requires
put_word-dots-requires c = dots_room _ _ c.requires.0 _ _ c.requires.1 c.put_number-low.ensures

pub put_number-high-requires : goal.put_number-high-requires
put_number-high-requires c = high_room _ _ c.requires.0 _ _ c.requires.1 c.put_number-low.ensures c.put_word-dots.ensures

pub put_byte-requires : goal.put_byte-requires
put_byte-requires c = close_room _ _ c.requires.0 _ _ c.requires.1 c.put_number-low.ensures c.put_word-dots.ensures c.put_number-high.ensures

pub returns : goal.returns
returns c = counts_wrote _ _ c.requires.0 _ _ c.requires.1 c.put_number-low.ensures c.put_word-dots.ensures c.put_number-high.ensures c.put_byte.ensures
