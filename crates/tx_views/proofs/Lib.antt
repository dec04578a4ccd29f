pub mod Effects
pub mod ValueOwners
pub mod ReadViews
