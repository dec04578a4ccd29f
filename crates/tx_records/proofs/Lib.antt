-- What stands at the end of a lock, and the commit record that it becomes.
mod LockEnds
