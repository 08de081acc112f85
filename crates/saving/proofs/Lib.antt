-- WrittenDigits: a number written digit by digit.
-- WrittenFrames: a run of writes in a row, and the frame that they make.
-- WrittenCells: what the numbers or the instruments add, written and counted one at a time.
-- WrittenText: what storing a text hands back and leaves in the buffer.
mod WrittenDigits
mod WrittenFrames
mod WrittenCells
mod WrittenText
