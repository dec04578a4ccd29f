-- The lines of a script, and the keys that steps name.
pub mod Lines
-- What a film has of a play.
pub mod Films
-- What a player has played that was filmed.
pub mod Filmed
