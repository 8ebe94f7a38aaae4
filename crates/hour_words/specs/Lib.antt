pub mod HourWords
