-- Lists put together and taken apart.
pub mod Lists
-- An encoded key, a group at a time.
pub mod Groups
-- A key that is read a group at a time.
pub mod KeyReads
-- The order of numbers is that of their bytes, the highest first.
pub mod Numbers
-- Encoded keys, a byte at a time, and their order.
pub mod Ordered
-- Numbers that are written as bytes, the highest first, and read again.
pub mod Words
-- No two keys or versions are spelled alike.
pub mod Versions
-- A number that is taken from the front of bytes.
pub mod Numerals
-- A record that is read a part at a time.
pub mod Parts
-- Keys that are read one after the other.
pub mod KeyLists
-- A lock record that is read a part at a time.
pub mod LockParts
-- No two records are spelled alike.
pub mod OneSpelling
