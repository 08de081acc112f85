-- Framing: the frame of a line's digits.
-- Values: what two characters write, by a table of the values of all bytes.
-- EndsFound: ends of lines that are found in the input, or not.
pub mod Framing
pub mod Values
pub mod EndsFound
