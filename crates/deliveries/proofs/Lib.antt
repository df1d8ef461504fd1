pub mod DeliveryLemmas
