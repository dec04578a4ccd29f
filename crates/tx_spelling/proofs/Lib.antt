-- Keys that are spelt by their first group, its marker, and the groups behind it.
mod FirstGroups
-- The order of bytes, eight at a time.
mod ByteOrder
