pub mod OneFigure
pub mod OneStateEach
pub mod AllRows
pub mod FewRows
pub mod ManyStates
pub mod BookLeaves
pub mod RingBits
