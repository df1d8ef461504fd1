pub mod FittingChange
