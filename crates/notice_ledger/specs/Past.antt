-- What stands after a list of events, each of which counts. These words speak of the events before a position,
-- which are lawful. The modules beside this one have the same words for any list of events, and apply these to its
-- lawful ones.
pub mod Journal
pub mod Values
pub mod Triggers
pub mod Owed
pub mod Deals
pub mod Runs
pub mod Due
pub mod Pushes
pub mod Outbox
pub mod Audit
pub mod Rows
pub mod Refusals
pub mod Lawful
