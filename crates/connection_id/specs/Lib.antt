pub mod ConnectionId
pub mod ConnectionIdLaws
