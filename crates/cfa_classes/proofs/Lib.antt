pub mod CalendarLemmas
pub mod CalendarRows
pub mod DayLemmas
