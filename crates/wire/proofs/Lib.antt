-- Laws of reading bytes.
--     Bytes      big-endian numbers, over the width
--     Stored     the bytes of a number as std gives them
--     Fields     what a field that is there, or too short, says of the bytes
--     Reading    how a reading goes on, and what a good one says
--     Readers    the turns of a loop over records, and what a good reading of them says
--     Layouts    records by position
--     Stride     records of one width by position
--     Parts      records by their number, and a part of them
--     Turns      the turns of a loop over records
--     Runs       records read one behind another by a function: the turns of the loop, and the run of a reader
--     Counts     counts in a header: what a good one says, and that one in its limits is read
--     Stands     bytes that stand in a message at a position
--     Exact      readers that read exactly what is written, and the start of a message
--     Written    records that are written one behind the other
--     Laid       bytes laid into a room one after another are laid in at once; what a loop has still to lay in
--     Spans      a loop over numbers that lays in the bytes of each
--     Judged     a field as it is read and judged: what it depends on, its faults, and a number that it takes
--     Onward     readings go onward: a fault lies at a field, nothing before it is to blame, and it can be mended
--     One        one answer of each public function
pub mod Bytes
pub mod Stored
pub mod Fields
pub mod Reading
pub mod Readers
pub mod Layouts
pub mod Stride
pub mod Parts
pub mod Turns
pub mod Runs
pub mod Stands
pub mod Exact
pub mod Counts
pub mod Written
pub mod Laid
pub mod Spans
pub mod Judged
pub mod Onward
pub mod One
