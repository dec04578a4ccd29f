-- How walks that follow one another add up.
mod WalkCounts
-- How many requests each call sends.
mod Calls
-- An async lock that is told lists fewer keys than its transaction has.
mod KeyLists
-- What came of a request stands in the tables, and is true.
mod Results
-- What a resolver comes to where its requests are served.
mod Served
