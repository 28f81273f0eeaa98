-- WHAT A ROW OF BITS PROMISES. The crates above cite this file and the names of specs/, and look into no definition.
-- Assumes nothing.

-- of two numbers one is the lower or they are the same
pub use Rattle.bits.proofs.Parts.{le_or_lt}
-- a byte has eight bits
pub use Rattle.bits.proofs.Rows.{length_bits}
-- A PART OF A ROW. A part of n bits writes a number below 2^n
pub use Rattle.bits.proofs.Replaced.{part_lt}
-- a part in which a value is put reads back
pub use Rattle.bits.proofs.Replaced.{part_back}
-- every other bit stays
pub use Rattle.bits.proofs.Replaced.{bit_stays}
-- so does every part that does not meet it
pub use Rattle.bits.proofs.Replaced.{part_stays}
-- and every byte behind it
pub use Rattle.bits.proofs.Replaced.{byte_stays}
-- no byte comes or goes
pub use Rattle.bits.proofs.Replaced.{length_with}
-- and bytes they are
pub use Rattle.bits.proofs.Replaced.{bytes_with}
-- the same value put there again changes nothing
pub use Rattle.bits.proofs.Replaced.{with_again}
-- ZEROS. Bytes that are 0 at the start of a row are 0 …
pub use Rattle.bits.proofs.Zeros.{zero_byte_lem}
-- … and so is every bit in them
pub use Rattle.bits.proofs.Zeros.{zero_bit}
-- and every part in them
pub use Rattle.bits.proofs.Zeros.{zero_part}
-- and bytes they are, where the rest are
pub use Rattle.bits.proofs.Zeros.{bytes_zeros}
-- every bit of a part that writes 0 is 0
pub use Rattle.bits.proofs.Zeros.{zero_in_part}
-- WORDS. The word that a few bytes write, and the bytes with a word stored in them
pub use Rattle.bits.proofs.Words.{word_of, stored}
-- a word of one to four bytes is loaded byte by byte
pub use Rattle.bits.proofs.Words.{word_one, word_two, word_three, word_four}
-- one of at most three is below 2^24
pub use Rattle.bits.proofs.Words.{word_lt}
-- a word of one to three bytes is stored byte by byte
pub use Rattle.bits.proofs.Words.{store_one, store_two, store_three}
-- where a part lies in a word, and the word with a value in the part's place
pub use Rattle.bits.proofs.Through.{Spans, patched}
-- a part is read from its word
pub use Rattle.bits.proofs.Through.{read_word}
-- and put into it
pub use Rattle.bits.proofs.Through.{write_word}
-- BITS. A bit of a row is a digit of the byte that it stands in, the top one first
pub use Rattle.bits.proofs.BitOfByte.{bit_of_byte}
-- the bits of a byte are its digits, and these one by one
pub use Rattle.bits.proofs.DigitsOfByte.{bits_of_byte, digits_of_byte}
-- the first n bytes have the first n·8 bits, and those behind them the bits behind
pub use Rattle.bits.proofs.DigitsOfByte.{bits_take, bits_drop}
-- ONES. No bits have no ones
pub use Rattle.bits.proofs.OnesOfRow.{ones_none}
-- a bit that is 0 adds none, one that is not 0 adds one
pub use Rattle.bits.proofs.OnesOfRow.{ones_dark, ones_lit}
-- two rows one behind the other have the ones of both
pub use Rattle.bits.proofs.OnesOfRow.{ones_append}
-- there are no more ones than bits
pub use Rattle.bits.proofs.OnesOfRow.{ones_le}
-- the number that a part writes has as many ones as the part has
pub use Rattle.bits.proofs.OnesOfPart.{ones_of_part}
-- THE BITS BETWEEN two places of a row of bytes: runs one behind the other have the ones of both
pub use Rattle.bits.proofs.CountingOnes.{between_join}
-- no more are ones than there are bits, and of no bits none
pub use Rattle.bits.proofs.CountingOnes.{between_le, between_none}
-- and behind the row's end there are none
pub use Rattle.bits.proofs.CountingOnes.{between_clamped}
-- whole bytes have the ones between their first bit and their last
pub use Rattle.bits.proofs.CountingOnes.{between_bytes}
-- of fewer than 2^61 bytes their number modulo 2^64, as `of_bytes` counts them, is their number
pub use Rattle.bits.proofs.CountingOnes.{bytes_fit}
