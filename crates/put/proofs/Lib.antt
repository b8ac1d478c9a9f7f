pub mod WordLaws
pub mod PutLaws
pub mod HalveLaws
