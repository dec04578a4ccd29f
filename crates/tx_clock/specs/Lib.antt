pub mod KeptOrder
