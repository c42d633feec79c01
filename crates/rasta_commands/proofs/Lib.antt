pub mod GivingUp
