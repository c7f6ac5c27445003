pub mod WrittenLaws
pub mod HexLaws
