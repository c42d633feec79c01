pub mod EndpointTexts
pub mod Documents
pub mod EndpointLaws
