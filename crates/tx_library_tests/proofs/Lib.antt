-- A transaction of no session may declare two keys.
mod Orphans
